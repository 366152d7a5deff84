-- What probe answers of one line or pin held, by whether some code input betrays it.
use Prim.Native.Nat.{ℕ, zero, suc, ◌^◌, ◌≤◌, ◌<◌}
use native.Mathlib.Omega.{arith}
use mathlib.Core.Path.{◌≡◌, refl}
use mathlib.Core.Bool.{Bool, true, false, cond}
use mathlib.Core.List.{List}
use mathlib.Core.Logic.{◌⊎◌, inl, inr}
use lib.ListN.{get_or}
use Rattle.fields.proofs.Bounded.{any-not, none-at}
use Rattle.table.specs.Promises.{Accepted}
use Rattle.netlist.specs.declared.Hold.{Hold}
use Rattle.netlist.specs.Netlist.{Netlist, level_of}
use Rattle.rules.specs.Board.{board_of, table_board}
use Rattle.faults.specs.Betrayal.{stuck_at, betrays, is_seen, smallest_input, lowest_no_code}
use Rattle.faults.proofs.Betrayed.{unseen-right, smallest-at, true-at}
use Rattle.faults.proofs.HeldLines.{level-bit}
use Rattle.stuck.specs.Service.{way_of, found_at, hidden_probe}
use Rattle.answers.specs.declared.Probed.{Probed}
use Rattle.answers.specs.Answers.{way_number, probed_by}
use Rattle.answers.specs.Promises.{IsSmallest, IsHidden}

-- The way of a value.
way-of : (v b : ℕ) → b ≤ 1 → v ≡ b → way_number (way_of v) ≡ b
way-of zero b h e = e
way-of (suc v) b h e = omega arith

way-shown : (v : ℕ) → way_number (way_of v) ≡ 2 → ⊥
way-shown zero e = omega arith
way-shown (suc v) e = omega arith

-- Whether some code input betrays a hold.
module _ (net : Netlist) (h : Hold) where
  pub none-betrays : is_seen net h ≡ false → (a : ℕ) → a < 2 ^ net.contacts → betrays net h a ≡ false
  unfolding is_seen
  none-betrays = none-at (betrays net h) (2 ^ net.contacts)

  pub not_seen : ((a : ℕ) → a < 2 ^ net.contacts → betrays net h a ≡ false) → is_seen net h ≡ false
  unfolding is_seen
  not_seen = any-not (betrays net h) (2 ^ net.contacts)

  -- What probe answers by that.
  abbrev pub answer_by : Bool → Probed
  answer_by seen =
      let input = cond seen (smallest_input net h) 0 in
      probed_by (cond seen (found_at net.pairs input (stuck_at net h input)) hidden_probe)

  pub hidden-by : (seen : Bool) → (answer_by seen).way ≡ 2 → seen ≡ false
  hidden-by true e =
      let values = stuck_at net h (smallest_input net h) in
      let p = get_or net.pairs (lowest_no_code net.pairs values) (record { on = 0; off = 0 }) in
      absurd (way-shown (get_or values p.on 0) e)
  hidden-by false e = refl

  pub refusal-by : (seen : Bool) → (answer_by seen).refusal ≡ 0
  refusal-by true = refl
  refusal-by false = refl

  pub input-by : (seen : Bool) → (answer_by seen).input ≡ cond seen (smallest_input net h) 0
  input-by true = refl
  input-by false = refl

pub answered : (table : List ℕ) → Accepted table → (h : Hold) (seen : Bool) → is_seen (table_board table) h ≡ seen →
    IsSmallest table h (answer_by (table_board table) h seen) ⊎ IsHidden table h (answer_by (table_board table) h seen)
unfolding board_of
answered table all h true e =
    let (below, inside, twice, before, lower) = smallest-at table all h e in
    inl (below, inside, twice, before, lower, way-of _ (level_of h) (level-bit h) (true-at table all h e))
answered table all h false e =
    inr (refl, refl, refl, λ a j l k. unseen-right table all h a j (none-betrays (table_board table) h e a l) k)
