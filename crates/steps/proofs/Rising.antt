-- Holds of rising rank, as question 14 wants them.
use native.Mathlib.Nat.{eq-or-lt_of_le}
use native.Mathlib.Omega.{arith}
use Prim.Native.Nat.{ℕ, zero, suc, ◌+◌, ◌/◌, ◌%◌, ◌≤◌, ◌<◌}
use mathlib.Core.Path.{◌≡◌, sym, ap₂, subst}
use mathlib.Core.Bool.{Bool, true, false, ◌&&◌, cond}
use mathlib.Core.List.{List, [], ◌∷◌, ◌++◌, flat_map}
use mathlib.Core.Logic.{⊎_elim}
use borrow.Author.Tests.{eq-eqb}
use lib.ListN.{length}
use Rattle.fields.specs.Bounded.{listed}
use Rattle.fields.proofs.Bounded.{all_of}
use Rattle.fields.proofs.Every.{Every}
use Rattle.netlist.specs.declared.Hold.{Hold}
use Rattle.netlist.specs.Netlist.{hold_at, hold_bytes, holds_of}
use Rattle.netlist.proofs.Files.{length-hold-bytes, holds-back}
use Rattle.drive.specs.Questions.{rank_of, rank_before, is_hold, are_holds, are_ordered}
use Rattle.drive.proofs.Tests.{HoldIn, is-hold, holds_at}
use Rattle.steps.specs.Steps.{passing}

module _ (first lines : ℕ) where
  -- Holds on the netlist, each of a higher rank than the one before it.
  abbrev pub Rising : ℕ → List Hold → Type 0
  Rising before [] = Unit
  Rising before (h ∷ hs) = HoldIn first lines before h × Rising (rank_of h) hs

  -- Question 14 says yes of a hold list exactly if its holds are such.
  module _ (holds : List ℕ) where
    abbrev Each : ℕ → Type 0
    Each i = HoldIn first lines (rank_before holds i) (hold_at holds i)

    from_each : (count start : ℕ) → ((i : ℕ) → i < start + count → Each i) →
        Rising (rank_before holds start) (listed (hold_at holds) count start)
    unfolding listed
    from_each zero start h = tt
    from_each (suc count) start h = (h start (omega arith), from_each count (suc start) (λ i l. h i (omega arith)))

    to-each : (count start : ℕ) → Rising (rank_before holds start) (listed (hold_at holds) count start) →
        (i : ℕ) → start ≤ i → i < start + count → Each i
    unfolding listed
    to-each zero start r i l g = absurd (omega arith)
    to-each (suc count) start r i l g =
        ⊎_elim (λ (e : start ≡ i). rw e at r.0) (λ m. to-each count (suc start) r.1 i m (omega arith)) (eq-or-lt_of_le l)

    pub list-rises : are_holds first lines holds ≡ true → Rising 1 (holds_of holds)
    unfolding holds_of
    list-rises e = from_each (length holds / 3) 0 (λ i l. holds_at first lines holds e i (omega arith))

    are-holds : Rising 1 (holds_of holds) → are_holds first lines holds ≡ true
    unfolding holds_of
    are-holds r =
        all_of (λ i. is_hold first lines (rank_before holds i) (hold_at holds i)) (length holds / 3)
        (λ i l. is-hold _ _ _ _ (to-each (length holds / 3) 0 r i (omega arith) (omega arith)))

  pub are-ordered : (hs : List Hold) → Rising 1 hs → are_ordered first lines (flat_map hold_bytes hs) ≡ true
  unfolding are_ordered
  are-ordered hs r =
      let whole : length (flat_map hold_bytes hs) % 3 ≡ 0 = omega (arith, length-hold-bytes hs) in
      ap₂ ◌&&◌ (eq-eqb _ _ whole) (are-holds (flat_map hold_bytes hs) (subst (Rising 1) (sym (holds-back hs)) r))

  pub rising-values : (before : ℕ) (hs : List Hold) → Rising before hs → Every (λ (h : Hold). h.value ≤ 5) hs
  rising-values before [] r = tt
  rising-values before (h ∷ hs) r = (r.0.few, rising-values (rank_of h) hs r.1)

  -- The first hold alone says after which rank holds rise.
  anew : {before : ℕ} (after : ℕ) (h : Hold) → HoldIn first lines before h → after < rank_of h → HoldIn first lines after h
  anew after h i l = record { after = l; within = i.within; few = i.few; gate = i.gate }

  pub rising-after : (before after : ℕ) (hs : List Hold) → Rising before hs → Every (λ (h : Hold). after < rank_of h) hs → Rising after hs
  rising-after before after [] r e = tt
  rising-after before after (h ∷ hs) r e = (anew after h r.0 e.0, r.1)

  lower : (before after : ℕ) (hs : List Hold) → after ≤ before → Rising before hs → Rising after hs
  lower before after [] l r = tt
  lower before after (h ∷ hs) l r = (anew after h r.0 (omega (arith, r.0.after)), r.1)

  pub rising-passing : (p : Hold → Bool) (before : ℕ) (hs : List Hold) → Rising before hs → Rising before (passing p hs)
  unfolding passing
  rising-passing p before [] r = tt
  rising-passing p before (h ∷ hs) r = go (p h) (rising-passing p (rank_of h) hs r.1)
    where
      go : (b : Bool) → Rising (rank_of h) (passing p hs) → Rising before (cond b (h ∷ passing p hs) (passing p hs))
      go true rest = (r.0, rest)
      go false rest = lower (rank_of h) before (passing p hs) (omega (arith, r.0.after)) rest

  -- Two such lists of which a rank parts the holds.
  pub rising-append : (before mark : ℕ) (hs ks : List Hold) → before ≤ mark → Rising before hs → Every (λ (h : Hold). rank_of h ≤ mark) hs →
      Rising mark ks → Rising before (hs ++ ks)
  rising-append before mark [] ks l r e q = lower mark before ks l q
  rising-append before mark (h ∷ hs) ks l r e q = (r.0, rising-append (rank_of h) mark hs ks e.0 r.1 e.1 q)
