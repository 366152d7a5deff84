-- The pairs of some bytes that are cut between two pairs.
use Prim.Native.Nat.{ℕ, ◌+◌, ◌*◌, ◌/◌, ◌≤◌, ◌<◌}
use native.Mathlib.Omega.{arith}
use mathlib.Core.Path.{◌≡◌, sym, ap, ◌∙◌}
use mathlib.Core.List.{List}
use lib.ListN.{length, get_or, take, drop, length-drop}
use lib.Seq.{length-take-le, get_or-take, get_or-drop, ext_get_or}
use Rattle.netlist.specs.Netlist.{pair_at, pairs_of}
use Rattle.netlist.proofs.Lists.{length_pairs, get_or-pairs}
use Rattle.rules.specs.Lamp.{no_pair}

module _ (v : List ℕ) (k : ℕ) where
  pair-front : (i : ℕ) → i < k → pair_at (take (4 * k) v) i ≡ pair_at v i
  pair-front i h =
      rw (
        get_or-take (4 * k) v (4 * i) 0 (omega arith),
        get_or-take (4 * k) v (4 * i + 1) 0 (omega arith),
        get_or-take (4 * k) v (4 * i + 2) 0 (omega arith),
        get_or-take (4 * k) v (4 * i + 2 + 1) 0 (omega arith),
      )

  byte-back : (i j n : ℕ) → n ≡ 4 * k + j → get_or (drop (4 * k) v) j 0 ≡ get_or v n 0
  byte-back i j n e = get_or-drop (4 * k) v j 0 ∙ ap (λ (m : ℕ). get_or v m 0) (sym e)

  pair-back : (i : ℕ) → pair_at (drop (4 * k) v) i ≡ pair_at v (k + i)
  pair-back i =
      rw (
        byte-back i (4 * i) (4 * (k + i)) (omega arith),
        byte-back i (4 * i + 1) (4 * (k + i) + 1) (omega arith),
        byte-back i (4 * i + 2) (4 * (k + i) + 2) (omega arith),
        byte-back i (4 * i + 2 + 1) (4 * (k + i) + 2 + 1) (omega arith),
      )

  module _ (few : k ≤ length v / 4) where
    pub pairs-front : pairs_of (take (4 * k) v) ≡ take k (pairs_of v)
    pairs-front =
        let bytes = length-take-le (4 * k) v (omega arith) in
        let here = length_pairs (take (4 * k) v) in
        let there = length-take-le k (pairs_of v) (omega (arith, length_pairs v)) in
        ext_get_or no_pair _ _ (omega arith) (λ i h.
        get_or-pairs (take (4 * k) v) i no_pair (omega arith)
        ∙ pair-front i (omega arith)
        ∙ sym (get_or-pairs v i no_pair (omega arith))
        ∙ sym (get_or-take k (pairs_of v) i no_pair (omega arith)))

    pub pairs-back : pairs_of (drop (4 * k) v) ≡ drop k (pairs_of v)
    pairs-back =
        let bytes = length-drop (4 * k) v in
        let here = length_pairs (drop (4 * k) v) in
        let all = length_pairs v in
        let there = length-drop k (pairs_of v) in
        ext_get_or no_pair _ _ (omega arith) (λ i h.
        get_or-pairs (drop (4 * k) v) i no_pair (omega arith)
        ∙ pair-back i
        ∙ sym (get_or-pairs v (k + i) no_pair (omega arith))
        ∙ sym (get_or-drop k (pairs_of v) i no_pair))

-- The bytes cut behind the first half of their pairs, rounded up.
module _ (v : List ℕ) {part : List ℕ} where
  pub half-front : part ≡ take (4 * ((length v / 4 + 1) / 2)) v →
      pairs_of part ≡ take ((length (pairs_of v) + 1) / 2) (pairs_of v)
  half-front e = rw (e, length_pairs v) (pairs-front v ((length v / 4 + 1) / 2) (omega arith))

  pub half-back : part ≡ drop (4 * ((length v / 4 + 1) / 2)) v →
      pairs_of part ≡ drop ((length (pairs_of v) + 1) / 2) (pairs_of v)
  half-back e = rw (e, length_pairs v) (pairs-back v ((length v / 4 + 1) / 2) (omega arith))
