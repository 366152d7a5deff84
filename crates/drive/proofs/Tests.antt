-- Question 14 by its tests.
use native.Mathlib.Numerals.{add-one}
use borrow.Author.Tests.{ltb-true, leb-true, lt-ltb, le-leb, lt-leb}
use Prim.Native.Nat.{ℕ, ◌+◌, ◌*◌, ◌/◌, ◌≤◌, ◌<◌}
use mathlib.Core.Path.{◌≡◌, sym, ap, ap₂, ◌∙◌}
use mathlib.Core.Bool.{Bool, true, false, ◌&&◌, ◌||◌, cond, and-false}
use mathlib.Core.List.{List}
use lib.Dec.{ltb, leb}
use lib.ListN.{length}
use Rattle.fields.specs.Bounded.{all}
use Rattle.fields.proofs.Bounded.{all-at, all_more, all-not, and_left, and_right}
use Rattle.netlist.specs.declared.Hold.{Hold}
use Rattle.netlist.specs.Netlist.{hold_at, site_of}
use Rattle.drive.specs.declared.Holds.TheVariants.{Disordered}
use Rattle.drive.specs.Questions.{rank_of, is_hold, rank_before, are_holds, are_ordered, order_of}

-- The rank of a line's hold, and of a pin's.
pub rank-line : (h : Hold) → h.value ≤ 1 → rank_of h ≡ h.line
rank-line h l = ap (λ (b : Bool). cond b h.line (65536 + 2 * h.line + site_of h)) (le-leb h.value 1 l)

pub rank-pin : (h : Hold) → 1 < h.value → rank_of h ≡ 65536 + 2 * h.line + site_of h
rank-pin h l = ap (λ (b : Bool). cond b h.line (65536 + 2 * h.line + site_of h)) (lt-leb h.value 1 l)

-- Hold i, as it was read after the hold before it.
module _ (first lines : ℕ) (holds : List ℕ) (i : ℕ) {before : ℕ} {h : Hold} (b : before ≡ rank_before holds i) (e : h ≡ hold_at holds i) where
  here : is_hold first lines (rank_before holds i) (hold_at holds i) ≡ is_hold first lines before h
  here = sym (ap₂ (is_hold first lines) b e)

  pub disordered : i < length holds / 3 → is_hold first lines before h ≡ false → Disordered ≡ order_of first lines holds
  unfolding are_ordered
  disordered l w =
      simp (all-not (λ k. is_hold first lines (rank_before holds k) (hold_at holds k)) (length holds / 3) i l (here ∙ w), and-false)

  pub one_more : all i (λ k. is_hold first lines (rank_before holds k) (hold_at holds k)) ≡ true → is_hold first lines before h ≡ true →
      all (i + 1) (λ k. is_hold first lines (rank_before holds k) (hold_at holds k)) ≡ true
  one_more a w = all_more _ i a (here ∙ w)

  pub rank-next : rank_of h ≡ rank_before holds (i + 1)
  rank-next = rw add-one (ap rank_of e)

-- What the test of a hold says.
pub record HoldIn (first lines before : ℕ) (h : Hold) : Type 0 where
  pub after : before < rank_of h
  pub within : h.line < lines
  pub few : h.value ≤ 5
  pub gate : (leb h.value 1 || leb first h.line) ≡ true

pub hold-in : (first lines before : ℕ) (h : Hold) → is_hold first lines before h ≡ true → HoldIn first lines before h
hold-in first lines before h e =
    let a = ltb before (rank_of h) in
    let b = ltb h.line lines in
    let c = leb h.value 5 in
    let d = leb h.value 1 || leb first h.line in
    let l = and_left (a && b && c) d e in
    let m = and_left (a && b) c l in
    record {
      after = ltb-true _ _ (and_left a b m);
      within = ltb-true _ _ (and_right a b m);
      few = leb-true _ _ (and_right (a && b) c l);
      gate = and_right (a && b && c) d e;
    }

pub is-hold : (first lines before : ℕ) (h : Hold) → HoldIn first lines before h → is_hold first lines before h ≡ true
is-hold first lines before h i =
    ap₂ ◌&&◌ (ap₂ ◌&&◌ (ap₂ ◌&&◌ (lt-ltb _ _ i.after) (lt-ltb _ _ i.within)) (le-leb _ _ i.few)) i.gate

pub holds_at : (first lines : ℕ) (holds : List ℕ) → are_holds first lines holds ≡ true → (i : ℕ) → i < length holds / 3 →
    HoldIn first lines (rank_before holds i) (hold_at holds i)
holds_at first lines holds e i h =
    hold-in _ _ _ _ (all-at (λ k. is_hold first lines (rank_before holds k) (hold_at holds k)) (length holds / 3) e i h)
