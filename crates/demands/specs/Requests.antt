-- What a request carries, and the very same request sent again.
use Rattle.std.specs.Prelude.{ℕ, Bool, true, false, List}
use Rattle.rules.specs.Calls.{Call}

-- carries a number: writes and trims do; reclaim and read carry none
abbrev pub carries : Call → Bool
carries (Call.write k l n out) = true
carries (Call.trim k l n) = true
carries (Call.read l n out) = false
carries (Call.reclaim out) = false
carries Call.report = false

abbrev pub is_write : Call → Bool
is_write (Call.write k l n out) = true
is_write (Call.trim k l n) = false
is_write (Call.read l n out) = false
is_write (Call.reclaim out) = false
is_write Call.report = false

-- the number; 0 where there is none
abbrev pub number_of : Call → ℕ
number_of (Call.write k l n out) = k
number_of (Call.trim k l n) = k
number_of (Call.read l n out) = 0
number_of (Call.reclaim out) = 0
number_of Call.report = 0

-- l and n; 0 where there is no range
abbrev pub start_of : Call → ℕ
start_of (Call.write k l n out) = l
start_of (Call.trim k l n) = l
start_of (Call.read l n out) = l
start_of (Call.reclaim out) = 0
start_of Call.report = 0

abbrev pub count_of : Call → ℕ
count_of (Call.write k l n out) = n
count_of (Call.trim k l n) = n
count_of (Call.read l n out) = n
count_of (Call.reclaim out) = 0
count_of Call.report = 0

-- the very same request, with an answer buffer of its own
abbrev pub again : Call → List ℕ → Call
again (Call.write k l n out) new = Call.write k l n new
again (Call.trim k l n) new = Call.trim k l n
again (Call.read l n out) new = Call.read l n new
again (Call.reclaim out) new = Call.reclaim new
again Call.report new = Call.report
