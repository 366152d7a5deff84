-- The pairs that line values show.
use native.Mathlib.Omega.{arith}
use Prim.Native.Nat.{ℕ, suc, ◌*◌, ◌<◌}
use mathlib.Core.Path.{◌≡◌, refl, ap}
use mathlib.Core.List.{List, [], ◌∷◌, ◌++◌, flat_map}
use lib.ListN.{length, get_or}
use Rattle.netlist.specs.declared.Pair.{Pair}
use Rattle.netlist.proofs.Sound.{PairIn}
use Rattle.simulation.specs.Run.{shown_of}

module _ (values : List ℕ) where
  pub length-shown : (ps : List Pair) → length (shown_of ps values) ≡ 2 * length ps
  unfolding shown_of flat_map
  length-shown [] = refl
  length-shown (p ∷ ps) = omega (arith, length-shown ps)

  pub shown-more : (ps : List Pair) (p : Pair) →
      shown_of (ps ++ (p ∷ [])) values ≡ shown_of ps values ++ (get_or values p.on 0 ∷ get_or values p.off 0 ∷ [])
  unfolding shown_of flat_map
  shown-more [] p = refl
  shown-more (q ∷ ps) p = ap (λ (l : List ℕ). get_or values q.on 0 ∷ get_or values q.off 0 ∷ l) (shown-more ps p)

-- Pairs are read off their own lines alone.
pub shown-same : (lines : ℕ) (vs ws : List ℕ) → ((i : ℕ) → i < lines → get_or vs i 0 ≡ get_or ws i 0) → (d : Pair) (ps : List Pair) →
    ((j : ℕ) → j < length ps → PairIn lines (get_or ps j d)) → shown_of ps vs ≡ shown_of ps ws
unfolding shown_of flat_map
shown-same lines vs ws same d [] h = refl
shown-same lines vs ws same d (p ∷ ps) h =
    let i = h 0 (omega arith) in
    cc (
      same p.on i.on,
      same p.off i.off,
      shown-same lines vs ws same d ps (λ j l. h (suc j) (omega arith)),
    )
