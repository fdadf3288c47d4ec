use Rattle.std.proofs.Common.{ap, not, arith}
use Rattle.windows.specs.Window.{going_no, going_step, going_end}
use Rattle.windows.proofs.windows_ok.Goals as goal
use Rattle.windows.proofs.windows_ok.Goals.{else-loop-k-test, then-loop-k-test+else-not-window_ok+else-k-end-k-gt8}

pub returns-then-not-window_ok : goal.returns-then-not-window_ok
returns-then-not-window_ok c =
    going_no c.requires c.loop-k.invariant c.window_ok.result (omega arith) (ap not c.if-not-window_ok.true) c.window_ok.ensures

pub loop-k-preserved : goal.loop-k-preserved
loop-k-preserved c =
    going_step c.requires c.loop-k.invariant c.window_ok.result (omega arith) (ap not c.if-not-window_ok.false) c.window_ok.ensures

pub returns : goal.returns
returns c =
    let o = c.loop-k.invariant in
    let last = c.window_ok-2 in
    elim c.loop-k-test.branch [
      | else-loop-k-test w ↦ going_end c.requires o last.result (omega arith) last.ensures
      | then-loop-k-test+else-not-window_ok+else-k-end-k-gt8 w ↦
          going_end c.requires (going_step c.requires o w.window_ok.result (omega arith) (ap not w.if-not-window_ok.false) w.window_ok.ensures) last.result (omega arith) last.ensures
    ]
