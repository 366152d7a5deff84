-- What one more turn of the loop over outputs adds: an output's pair.
use native.Mathlib.Numerals.{towards_suc}
use native.Mathlib.Omega.{arith}
use Prim.Native.Nat.{ℕ, ◌+◌, ◌*◌, ◌/◌}
use mathlib.Core.Path.{◌≡◌, sym, ap, ◌∙◌}
use mathlib.Core.List.{List, [], ◌∷◌, ◌++◌}
use lib.ListN.{length, get_or, set}
use lib.Seq.{sets}
use Rattle.fields.specs.Bounded.{listed}
use Rattle.fields.proofs.Listed.{length-listed, listed_more}
use Rattle.files.proofs.WrittenLemmas.{onward}
use Rattle.netlist.specs.declared.Pair.{Pair}
use Rattle.netlist.specs.Netlist.{pair_at, pairs_of}
use Rattle.simulation.specs.Run.{shown_of}
use Rattle.simulation.proofs.Shown.{length-shown, shown-more}

module _ (outputs values buffer : List ℕ) (before : ℕ) where
  -- The buffer after j outputs.
  abbrev pub paired : ℕ → List ℕ
  paired j = sets buffer (2 * before) (shown_of (listed (pair_at outputs) j 0) values)

  pub pair-more : (j : ℕ) {pairs : List ℕ} {p : Pair} {at a b : ℕ} → pairs ≡ paired j → p ≡ pair_at outputs j → at ≡ 2 * (before + j) →
      a ≡ get_or values p.on 0 → b ≡ get_or values p.off 0 → set (set pairs at a) (at + 1) b ≡ paired (j + 1)
  pair-more j {pairs} {p} {at} {a} {b} e q i on off =
      let ps = listed (pair_at outputs) j 0 in
      let two : List ℕ = get_or values p.on 0 ∷ get_or values p.off 0 ∷ [] in
      let one : set (set pairs at a) (at + 1) b ≡ sets pairs at two = rw (on, off) (simp towards_suc) in
      onward buffer (2 * before) (shown_of ps values) two e one
      (omega (arith, length-shown values ps, length-listed (pair_at outputs) j 0))
      ∙ ap (sets buffer (2 * before))
      (sym (ap (λ (qs : List Pair). shown_of qs values) (listed_more (pair_at outputs) j ∙ ap (λ (r : Pair). ps ++ (r ∷ [])) (sym q))
      ∙ shown-more values ps p))

  pub pairs-done : (j : ℕ) → j ≡ length outputs / 4 → paired j ≡ sets buffer (2 * before) (shown_of (pairs_of outputs) values)
  unfolding pairs_of
  pairs-done j e = ap paired e
