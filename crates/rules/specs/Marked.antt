-- P1 to P12 of document 01, as one table; a second one of the same kind has what document 02 adds. The statements about them stand in proofs/: Marked.antt, by computing, and
-- MarkedRows.antt, as equations.
use Rattle.std.specs.Prelude.{ℕ, List, [], ◌∷◌, replicate}
use Rattle.rules.specs.Calls.{Call}
use Rattle.rules.specs.Cases.{Case, Expect, Look, From, expect}

-- ---- the requests of the cases, with answer buffers of 48 words

abbrev room48 : List ℕ
room48 = replicate 48 0

abbrev write : ℕ → ℕ → ℕ → Call
write k l n = Call.write k l n room48

abbrev trim : ℕ → ℕ → ℕ → Call
trim k l n = Call.trim k l n

abbrev answer : Call → List ℕ → Expect
answer c must = expect (Look.answer c) must

abbrev the_map : List ℕ → Expect
the_map must = expect Look.the_map must

abbrev the_reserve : ℕ → Expect
the_reserve r = expect Look.the_reserve (r ∷ [])

-- free, live, stale
abbrev report : ℕ → ℕ → ℕ → Expect
report f l s = answer Call.report (0 ∷ f ∷ l ∷ s ∷ [])

abbrev reclaim : List ℕ → Expect
reclaim must = answer (Call.reclaim room48) must

abbrev case : From → List Call → List Expect → Case
case from before expects = record { from = from; before = before; expects = expects }

-- "Unless said, B=4, N=16, L=32, M=16"
abbrev usual : From
usual = From.anew 4 16 32 16

-- ---- the table

abbrev pub marked : List Case
marked =
    -- P1
    case usual [] (the_reserve 3 ∷ report 48 0 0 ∷ [])
    -- P2
    ∷ case usual [] (answer (write 1 0 2) (0 ∷ 1 ∷ 0 ∷ 0 ∷ 2 ∷ []) ∷ [])
    -- P3
    ∷ case usual (write 1 0 2 ∷ write 2 4 1 ∷ write 3 10 4 ∷ write 4 6 1 ∷ write 5 11 2 ∷ write 6 7 1 ∷ write 7 9 1 ∷ []) (
    the_map (0 ∷ 0 ∷ 2 ∷ 4 ∷ 2 ∷ 1 ∷ 6 ∷ 7 ∷ 1 ∷ 7 ∷ 10 ∷ 1 ∷ 9 ∷ 11 ∷ 1 ∷ 10 ∷ 3 ∷ 1 ∷ 11 ∷ 8 ∷ 2 ∷ 13 ∷ 6 ∷ 1 ∷ [])
    ∷ report 36 10 2 ∷ [])
    -- P4
    ∷ case (From.row 3) [] (answer (write 7 9 1) (4 ∷ 0 ∷ []) ∷ report 36 10 2 ∷ [])
    -- P5
    ∷ case (From.row 3) [] (
    answer (Call.read 9 6 room48)
    (0 ∷ 5 ∷ 9 ∷ 11 ∷ 1 ∷ 10 ∷ 3 ∷ 1 ∷ 11 ∷ 8 ∷ 2 ∷ 13 ∷ 6 ∷ 1 ∷ 14 ∷ 4294967295 ∷ 1 ∷ []) ∷ [])
    -- P6
    ∷ case (From.row 3) [] (
    reclaim (0 ∷ 10 ∷ 0 ∷ 1 ∷ 2 ∷ 3 ∷ 6 ∷ 7 ∷ 8 ∷ 9 ∷ 10 ∷ 11 ∷ [])
    ∷ the_map (0 ∷ 48 ∷ 2 ∷ 4 ∷ 50 ∷ 1 ∷ 6 ∷ 53 ∷ 1 ∷ 7 ∷ 56 ∷ 1 ∷ 9 ∷ 57 ∷ 1 ∷ 10 ∷ 51 ∷ 1 ∷ 11 ∷ 54 ∷ 2 ∷ 13 ∷ 52 ∷ 1 ∷ [])
    ∷ the_reserve 0 ∷ report 38 10 0 ∷ [])
    -- P7
    ∷ case (From.row 6) [] (reclaim (8 ∷ 0 ∷ []) ∷ [])
    -- P8
    ∷ case (From.row 6) [] (answer (write 8 0 16) (0 ∷ 1 ∷ 0 ∷ 16 ∷ 16 ∷ []) ∷ the_map (0 ∷ 16 ∷ 16 ∷ []) ∷ report 22 16 10 ∷ [])
    -- P9
    ∷ case (From.row 8) [] (answer (trim 9 5 1) (0 ∷ []) ∷ the_map (0 ∷ 16 ∷ 5 ∷ 6 ∷ 22 ∷ 10 ∷ []) ∷ report 22 15 11 ∷ [])
    -- P10
    ∷ case (From.anew 4 16 32 1) (write 1 0 16 ∷ []) (answer (trim 2 5 1) (6 ∷ []) ∷ answer (trim 2 0 16) (0 ∷ []) ∷ [])
    -- P11, as 02's T-04 has it
    ∷ case usual (write 1 0 10 ∷ []) (answer (write 2 10 16) (0 ∷ 1 ∷ 10 ∷ 16 ∷ 16 ∷ []) ∷ the_map (0 ∷ 0 ∷ 10 ∷ 10 ∷ 16 ∷ 16 ∷ []) ∷ [])
    -- P12
    ∷ case (From.anew 3 1 1 1) [] (
    answer (write 1 0 1) (0 ∷ 1 ∷ 0 ∷ 0 ∷ 1 ∷ [])
    ∷ answer (write 2 0 1) (0 ∷ 1 ∷ 0 ∷ 1 ∷ 1 ∷ [])
    ∷ answer (write 3 0 1) (5 ∷ 0 ∷ [])
    ∷ reclaim (0 ∷ 0 ∷ [])
    ∷ the_reserve 0
    ∷ answer (write 3 0 1) (0 ∷ 1 ∷ 0 ∷ 2 ∷ 1 ∷ []) ∷ [])
    ∷ []

-- ---- document 02

abbrev pub marked02 : List Case
marked02 =
    -- T-04: a page too many for block 0, which stays open; one that fills it; the next
    case usual (write 1 0 10 ∷ []) (
    answer (write 2 10 7) (0 ∷ 1 ∷ 10 ∷ 16 ∷ 7 ∷ [])
    ∷ answer (write 3 17 6) (0 ∷ 1 ∷ 17 ∷ 10 ∷ 6 ∷ [])
    ∷ answer (write 4 23 9) (0 ∷ 1 ∷ 23 ∷ 23 ∷ 9 ∷ [])
    ∷ the_map (0 ∷ 0 ∷ 10 ∷ 10 ∷ 16 ∷ 7 ∷ 17 ∷ 10 ∷ 6 ∷ 23 ∷ 23 ∷ 9 ∷ []) ∷ report 16 32 0 ∷ [])
    -- T-04: the lowest-numbered block with room, not the fullest
    ∷ case usual (write 1 0 4 ∷ write 2 4 13 ∷ []) (answer (write 3 17 2) (0 ∷ 1 ∷ 17 ∷ 4 ∷ 2 ∷ []) ∷ [])
    -- T-04: only the reserve has room for all, so 01's order is used, from the lowest block
    ∷ case usual (write 1 0 10 ∷ write 2 10 10 ∷ write 3 20 10 ∷ []) (
    answer (write 4 0 16) (0 ∷ 3 ∷ 0 ∷ 10 ∷ 6 ∷ 6 ∷ 26 ∷ 6 ∷ 12 ∷ 42 ∷ 4 ∷ [])
    ∷ the_map (0 ∷ 10 ∷ 6 ∷ 6 ∷ 26 ∷ 6 ∷ 12 ∷ 42 ∷ 4 ∷ 16 ∷ 22 ∷ 4 ∷ 20 ∷ 32 ∷ 10 ∷ []) ∷ report 2 30 16 ∷ [])
    -- 01, rule 2: not joined over the block's edge, though both addresses go on there
    ∷ case usual (write 1 0 10 ∷ write 2 10 6 ∷ []) (answer (write 3 16 16) (0 ∷ 1 ∷ 16 ∷ 16 ∷ 16 ∷ []) ∷ the_map (0 ∷ 0 ∷ 16 ∷ 16 ∷ 16 ∷ 16 ∷ []) ∷ [])
    -- T-04: 6 and 7 go by the pieces. Here 01's order would have needed two of them, a third slot and six words of the answer
    ∷ case (From.anew 4 16 32 2) (write 1 0 10 ∷ []) (
    answer (Call.write 2 16 16 (replicate 3 0)) (0 ∷ 1 ∷ 16 ∷ 16 ∷ 16 ∷ []) ∷ the_map (0 ∷ 0 ∷ 10 ∷ 16 ∷ 16 ∷ 16 ∷ []) ∷ [])
    ∷ case (From.anew 4 16 32 4) (write 1 0 10 ∷ write 2 10 10 ∷ write 3 20 10 ∷ []) (answer (write 4 0 16) (6 ∷ 0 ∷ []) ∷ [])
    ∷ case (From.anew 4 16 32 5) (write 1 0 10 ∷ write 2 10 10 ∷ write 3 20 10 ∷ []) (answer (Call.write 4 0 16 (replicate 8 0)) (7 ∷ 0 ∷ []) ∷ [])
    ∷ []
