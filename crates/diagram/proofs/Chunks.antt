-- The bytes of a list two by two: what `any` and `position` answer over its chunks, where the closure tests a chunk's bytes.
use Prim.Native.Nat.{ℕ, ◌+◌, ◌*◌, ◌≤◌, ◌<◌}
use native.Mathlib.Omega.{arith}
use mathlib.Core.Path.{◌≡◌, refl, sym, ap, ap₂, ◌∙◌}
use mathlib.Core.Bool.{Bool, true, false}
use mathlib.Core.List.{List}
use lib.ListN.{length, get_or}
use denote.Ref.{Bor}
use denote.Param.Members.{Mut, Called}
use Rattle.std.specs.declared.option.Option.{Option}
use Rattle.std.specs.declared.option.Option.TheVariants.{Some, None}
use Rattle.std.specs.Option.{MatchOption, IfSome, option_map}
use Rattle.std.specs.Bool.{MatchBool, IsTrue}
use Rattle.std.specs.List.{IsSubsliceAt}
use Rattle.std.specs.declared.slice.ChunksExact.{ChunksExact}
use Rattle.std.specs.Slice.Iter.{chunks_exact_rest, chunks_exact_size, chunks_exact_steps}
use Rattle.std.specs.Iterator.Runs.{Run, SomeRun, EveryRun, IsChunksExactRun, CallKeepsClosure, AnyItemGives, AllItemsGive, IsFirstToGive}
use Rattle.fields.specs.Bounded.{any, least}
use Rattle.fields.proofs.Bounded.{any_at, any-not}
use Rattle.fields.proofs.Least.{least-is}

-- Chunk k of a list.
record Piece (xs : List ℕ) (k : ℕ) (x : Bor (List ℕ)) : Type 0 where
  within : k * 2 + 2 ≤ length xs
  long : length x.now ≡ 2
  first : get_or x.now 0 0 ≡ get_or xs (2 * k) 0
  second : get_or x.now 1 0 ≡ get_or xs (2 * k + 1) 0

module _ (xs : List ℕ) (s : ChunksExact ℕ) (rest : chunks_exact_rest s ≡ xs) (size : chunks_exact_size s ≡ 2)
    (every : EveryRun (chunks_exact_steps {A = ℕ}) (λ p. 0 < chunks_exact_size p.from → IsChunksExactRun p (chunks_exact_size p.from) (chunks_exact_rest p.from)))
  where
    module _ (p : Run (chunks_exact_steps {A = ℕ})) (from : p.from ≡ s) where
      exact : IsChunksExactRun p 2 xs
      exact = rw (from, rest, size) at (every p p.seen (rw (from, size) (omega arith)))

      item : (k : ℕ) → k < p.len → (x : Bor (List ℕ)) × (p.at k ≡ Some x) × Piece xs k x
      item k h = go (p.at k) refl (p.reads k s.rest h) (exact.2 k)
        where
          go : {y : Bor (List ℕ)} (o : Option (Bor (List ℕ))) → p.at k ≡ o → option_map (λ y. y) o ≡ Some y →
              IfSome o (λ x. (length x.now ≡ 2) × (k * 2 + 2 ≤ length xs) × IsSubsliceAt 2 xs (k * 2) x.now) →
              (x : Bor (List ℕ)) × (p.at k ≡ Some x) × Piece xs k x
          go None e q m = absurd (let z : ◌≡◌ {A = ℕ} 0 1 = cc in omega arith)
          go (Some x) e q (long, within, part) = (
            x,
            e,
            record {
              within = within;
              long = long;
              first = part.2 0 0 (omega arith) ∙ ap (λ (i : ℕ). get_or xs i 0) (omega arith);
              second = part.2 1 0 (omega arith) ∙ ap (λ (i : ℕ). get_or xs i 0) (omega arith);
            },
          )

    module _ {F : Type 0} (g : Mut F (Bor (List ℕ) × Unit {0}) Bool) (f : F) (keeps : CallKeepsClosure g f) (t : ℕ → ℕ → Bool)
        (computes : (x : Bor (List ℕ)) (b : Bool) → length x.now ≡ 2 → Called g f (x, tt) b f → b ≡ t (get_or x.now 0 0) (get_or x.now 1 0))
        (n : ℕ) (two : length xs ≡ 2 * n) (test : ℕ → Bool)
        (tests : (k : ℕ) → k < n → t (get_or xs (2 * k) 0) (get_or xs (2 * k + 1) 0) ≡ test k) where
      told : {k : ℕ} {x : Bor (List ℕ)} (b : Bool) → Piece xs k x → Called g f (x, tt) b f → test k ≡ b
      told {k} b c q = sym (computes _ b c.long q ∙ ap₂ t c.first c.second ∙ tests k (omega (arith, c.within)))

      none : (p : Run (chunks_exact_steps {A = ℕ})) → p.from ≡ s → IsTrue p.whole → AllItemsGive p g f false →
          (k : ℕ) → k < n → test k ≡ false
      none p from whole m k h =
          let (x, e, c) = item p from k (omega (arith, (exact p from).1 whole)) in
          told false c (rw e at (m keeps k))

      pub any-chunk : (r : Bool) →
          SomeRun chunks_exact_steps s (λ p. MatchBool r (AnyItemGives p g f true) (IsTrue p.whole × AllItemsGive p g f false)) →
          r ≡ any n test
      any-chunk true (p, from, m) =
          let (k, h, q) = m keeps in
          let (x, e, c) = item p from k h in
          sym (any_at test n k (omega (arith, c.within)) (told true c (rw e at q)))
      any-chunk false (p, from, m) = sym (any-not test n (none p from m.0 m.1))

      pub first-chunk : (r : Option ℕ) →
          SomeRun chunks_exact_steps s (λ p. MatchOption r (IsTrue p.whole × AllItemsGive p g f false) (λ i. (p.len ≡ i + 1) × IsFirstToGive p g f true false i)) →
          MatchOption r (any n test ≡ false) (λ i. (i < n) × (i ≡ least n test))
      first-chunk None (p, from, m) = any-not test n (none p from m.0 m.1)
      first-chunk (Some i) (p, from, m) =
          let (hit, misses) = m.1 keeps in
          let (x, e, c) = item p from i (omega (arith, m.0)) in (
            omega (arith, c.within),
            least-is test
                (record {
                  below = omega (arith, c.within);
                  passes = told true c (rw e at hit);
                  none = λ k h.
                      let (x, e, c) = item p from k (omega (arith, m.0)) in
                      told false c (rw e at (misses k h));
                }),
          )
