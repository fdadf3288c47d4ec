-- The plain device: a table with one line per logical page in place of the extents, beside the fills, the labels, the reserve and the
-- last request. Its three counts; and the way from lent words to it and back.
use Rattle.std.specs.Prelude.{ℕ, ◌+◌, ◌-◌, ◌*◌, ◌/◌, Bool, not, cond, ◌&&◌, List, eqb, length, get_or, replicate, ◌++◌}
use Rattle.rules.specs.Counting.{sum, count, tabulate, among}
use Rattle.rules.specs.Extents.{none, lookup, runs, flat}
use Rattle.rules.specs.Blocks.{records}
use Rattle.rules.specs.Lent.{Lent, in_use, fill_of}
use Rattle.rules.specs.declared.Head.{Head}
use Rattle.rules.specs.declared.Last.{Last}
use Rattle.rules.specs.declared.Extent.{Extent}

pub record Device : Type 0 where
  -- N and M; B is the number of fills, L the number of lines
  pub pages : ℕ
  pub slots : ℕ
  -- for each logical page its physical page, or `none`
  pub table : List ℕ
  pub fills : List ℕ
  pub spare : List ℕ
  pub reserve : ℕ
  -- the last accepted request
  pub last : Last

abbrev pub blocks : Device → ℕ
blocks d = length d.fills

abbrev pub lines : Device → ℕ
lines d = length d.table

-- the page of line l
abbrev pub at : Device → ℕ → ℕ
at d l = get_or d.table l none

abbrev pub fill : Device → ℕ → ℕ
fill d b = get_or d.fills b 0

-- the spare entry of page p
abbrev pub label : Device → ℕ → ℕ
label d p = get_or d.spare p none

-- ---- what is counted

-- line l is no hole
unfoldable pub mapped : Device → ℕ → Bool
mapped d l = not (eqb (at d l) none)

-- a logical page maps to page o of block b
unfoldable pub named : Device → ℕ → ℕ → Bool
named d b o = among (b * d.pages + o) d.table

-- 01, a sound state, rule 5: the number of mapped pages in block b
unfoldable pub valid : Device → ℕ → ℕ
valid d b = count (lines d) (λ l. mapped d l && eqb (at d l / d.pages) b)

-- 01: a page below its block's fill is programmed. A programmed page is stale when no logical page maps to it
unfoldable pub stale_in : Device → ℕ → ℕ
stale_in d b = count (fill d b) (λ o. not (named d b o))

-- 01: stale is the count of stale pages
unfoldable pub stale : Device → ℕ
stale d = sum (blocks d) (stale_in d)

-- 01: live is the count of mapped logical pages
unfoldable pub live : Device → ℕ
live d = count (lines d) (mapped d)

-- 01: free is the sum of N - fill over all blocks but the reserve
unfoldable pub room : Device → ℕ → ℕ
room d b = cond (eqb b d.reserve) 0 (d.pages - fill d b)

unfoldable pub free : Device → ℕ
free d = sum (blocks d) (room d)

-- ---- from lent words and back

-- the extents of the device's table: the map, joined
unfoldable pub extents : Device → List Extent
extents d = runs d.pages 0 d.table

-- the plain table of a state
unfoldable pub table_of : Lent → List ℕ
table_of s = tabulate s.head.logical (lookup (in_use s))

unfoldable pub device_of : Lent → Device
device_of s = record {
  pages = s.head.pages;
  slots = s.head.slots;
  table = table_of s;
  fills = tabulate s.head.blocks (fill_of s);
  spare = s.spare;
  reserve = s.head.reserve;
  last = s.head.last;
}

-- the head of a device: this is what comes back from an accepted call
unfoldable pub head_of : Device → Head
head_of d = record {
  blocks = blocks d;
  pages = d.pages;
  logical = lines d;
  slots = d.slots;
  used = length (extents d);
  reserve = d.reserve;
  last = d.last;
}

-- the words of a device: its extents in the first slots and zeros in the others; fill and valid of each block; the labels
unfoldable pub words_of : Device → Lent
words_of d = record {
  head = head_of d;
  extent_words = flat (extents d) ++ replicate (3 * (d.slots - length (extents d))) 0;
  block_words = records d.fills 0 (valid d);
  spare = d.spare;
}
