-- Demand 2, proved of every world that holds a storable device with its flash and its lines.
use Rattle.std.specs.Prelude.{ℕ, ◌≡◌, refl, List, [], ◌∷◌, map, get_or}
use Rattle.std.proofs.Common.{sym, ◌∙◌, subst, arith}
use Rattle.std.proofs.Math.Path.{ap}
use Rattle.std.proofs.Math.Logic.{by_cases}
use Rattle.std.proofs.Math.Decide.{ℕ_discrete}
use Rattle.rules.specs.Lent.{Lent}
use Rattle.rules.specs.Device.{Device, device_of, head_of, words_of}
use Rattle.rules.specs.Answers.{Outcome}
use Rattle.rules.specs.Calls.{Call, refusal, refused, accepted, plain_call, encoded}
use Rattle.laws.specs.Sound.{Storable}
use Rattle.laws.specs.States.{words-device}
use Rattle.laws.specs.Calls.{call_plain}
use Rattle.laws.specs.Kept.{keeps}
use Rattle.demands.specs.Flash.{hole, contents}
use Rattle.demands.specs.Host.{Ask, World, run}
use Rattle.demands.specs.Demand2.{history, plain_history, trace, NotTwice, InOrder, Demand2}
use Rattle.demands.proofs.Worlds.{Faithful, plain_accepted, plain_refused, run_holds, holds-reads}
use Rattle.demands.proofs.Traces.{trace-allowed, in_order_lem, not-twice}

-- ---- the answers

plain_storable : (c : Call) (d : Device) → Storable d → Storable (plain_call c d).after
unfolding accepted refused
plain_storable c d g =
    by_cases (ℕ_discrete (refusal c d) 0)
    (λ e. subst (λ (o : Outcome Device). Storable o.after) (sym (plain_accepted c d e)) (keeps c d g e))
    (λ e. subst (λ (o : Outcome Device). Storable o.after) (sym (plain_refused c d e)) g)

as_plain : (cs : List Call) (d : Device) → Storable d → history cs (words_of d) ≡ map encoded (plain_history cs d)
unfolding history plain_history encoded
as_plain [] d g = refl
as_plain (c ∷ cs) d g =
    ap (λ (o : Outcome Lent). o ∷ history cs o.after) (call_plain c d g)
    ∙ ap (λ (os : List (Outcome Lent)). encoded (plain_call c d) ∷ os) (as_plain cs (plain_call c d).after (plain_storable c d g))

-- ---- the pages

holds-contents : (m : ℕ) (w : World) → Faithful m w → (l : ℕ) → contents (device_of w.state) w.flash l ≡ get_or w.table l hole
holds-contents m w h l =
    subst (λ (v : World). contents (device_of v.state) v.flash l ≡ get_or v.table l hole) (sym h.is)
    (ap (λ (d : Device). contents d h.flash l) (words-device h.device h.storable) ∙ h.agrees.says l)

module _ (m : ℕ) (w : World) (h : Faithful m w) (asks : List Ask) where
  after : Faithful m (run asks w)
  after = run_holds m asks w h

  state-is : w.state ≡ words_of h.device
  state-is = ap (λ (v : World). v.state) h.is

  pages-is : w.state.head.pages ≡ h.device.pages
  unfolding words_of head_of
  pages-is = ap (λ (s : Lent). s.head.pages) state-is

  -- what the host does is done with the device's N
  with_pages : (P : ℕ → Type 0) → P w.state.head.pages → P h.device.pages
  with_pages P p = subst P pages-is p

  on-device : Demand2 w h.device asks
  on-device =
      let cs = map (λ (a : Ask). a.request) asks in
      let n = w.state.head.pages in
      let allowed = trace-allowed m asks w h in
      record {
        answers = ap (history cs) state-is ∙ as_plain cs h.device h.storable;
        reads = λ l k. holds-reads m (run asks w) after l (omega (arith, h.lines));
        contents = λ l k. holds-contents m (run asks w) after l;
        not_twice = with_pages (λ k. NotTwice k (trace asks w)) (not-twice n (trace asks w) w.flash w.programmed allowed);
        in_order = with_pages (λ k. InOrder k w.programmed (trace asks w)) (in_order_lem n (trace asks w) w.flash w.programmed allowed);
      }

  -- its device is that of its state
  pub holds-demand : Demand2 w (device_of w.state) asks
  holds-demand = subst (λ (d : Device). Demand2 w d asks) (sym (ap device_of state-is ∙ words-device h.device h.storable)) on-device
