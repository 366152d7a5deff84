-- One of the two batches of each line.
use Prim.Native.Nat.{ℕ}
use mathlib.Core.Path.{◌≡◌, refl, sym, ap, ◌∙◌}
use mathlib.Core.Bool.{Bool, true, false, cond}
use mathlib.Core.List.{List, map}
use lib.Dec.{eqb}
use lib.ListN.{get_or, set, get_or-map}
use Rattle.std.proofs.lemmas.List.{map-set}
use Rattle.batches.specs.declared.batch.TwoBatches.{TwoBatches}
use Rattle.batches.specs.Inner.Batches.{at, none, held_batch}

-- Of what a line shows.
pub shown-half : (p : TwoBatches → ℕ) (line : ℕ) (held : TwoBatches) (x : ℕ) (made : TwoBatches) →
    p (held_batch line held x made) ≡ held_batch line (p held) x (p made)
shown-half p line held x made = go (eqb line x)
  where
    go : (b : Bool) → p (cond b held made) ≡ cond b (p held) (p made)
    go true = refl
    go false = refl

-- Of lines two of which are written.
pub half-set : (p : TwoBatches → ℕ) (ws : List TwoBatches) (i j : ℕ) (v w : TwoBatches) →
    map p (set (set ws i v) j w) ≡ set (set (map p ws) i (p v)) j (p w)
half-set p ws i j v w = map-set p (set ws i v) j w ∙ ap (λ (us : List ℕ). set us j (p w)) (map-set p ws i v)

-- Of a line's batches.
pub half-at : (p : TwoBatches → ℕ) → p none ≡ 0 → (ws : List TwoBatches) (i : ℕ) → p (at ws i) ≡ get_or (map p ws) i 0
half-at p clear ws i = sym (get_or-map p ws i none) ∙ ap (get_or (map p ws) i) clear
