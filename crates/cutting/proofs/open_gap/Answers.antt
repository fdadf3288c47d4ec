-- The steps of `Cutting`: the extent on both sides taken apart, or each side clipped.
use Rattle.std.proofs.Common.{refl, arith}
use Rattle.cutting.specs.Cutting.{after_le, split_ready, split_done, right-ready, left-ready, cut-done}
use Rattle.cutting.proofs.open_gap.Goals as goal

pub overflow_sub-z : goal.overflow_sub-z
overflow_sub-z c =
    let a = c.args in
    let at = c.requires.1 in
    after_le a.ext.now a.used a.l a.e _ _ c.requires.0 at.before at.after

pub split-requires : goal.split-requires
split-requires c =
    let a = c.args in
    let at = c.requires.1 in
    split_ready a.ext.now a.used a.l a.e _ _ c.requires.0 at.before at.after (omega arith)

pub returns-then-z-a : goal.returns-then-z-a
returns-then-z-a c =
    let a = c.args in
    let at = c.requires.1 in
    (split_done a.ext.now a.used a.l a.e _ _ c.requires.0 at.before at.after (omega arith) _ c.split.ensures, refl)

pub clip_right-requires : goal.clip_right-requires
clip_right-requires c =
    let a = c.args in
    let at = c.requires.1 in
    right-ready a.ext.now a.used a.l a.e _ _ c.requires.0 at.before at.after (omega arith)

pub clip_left-requires : goal.clip_left-requires
clip_left-requires c =
    let a = c.args in
    let at = c.requires.1 in
    left-ready a.ext.now a.used a.l a.e _ _ c.requires.0 at.before at.after (omega arith) _ c.clip_right.ensures

pub returns : goal.returns
returns c =
    let a = c.args in
    let at = c.requires.1 in
    (cut-done a.ext.now a.used a.l a.e _ _ c.requires.0 at.before at.after (omega arith) _ c.clip_right.ensures _ c.clip_left.ensures, refl)
