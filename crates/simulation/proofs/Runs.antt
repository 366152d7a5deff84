-- The laws of working lines out from their drivers, for any rule.
use native.Mathlib.Nat.{not-suc-le-zero, add-zero}
use native.Mathlib.Omega.{arith}
use Prim.Native.Nat.{ℕ, zero, suc, ◌+◌, ◌<◌}
use mathlib.Core.Path.{◌≡◌, refl, sym, ap, subst, ◌∙◌}
use mathlib.Core.List.{List, [], ◌∷◌, ◌++◌}
use lib.ListN.{length, get_or, take, length-append, get_or-append}
use lib.Seq.{get_or-append_seam, take-append_seam, take-length, take-take}
use Rattle.simulation.specs.Run.{Driver, Rule, drive, work_out}

module _ {A : Type 0} (r : Rule A) where
  pub length_run : (ds : List (Driver A)) (vs : List A) → length (work_out r ds vs) ≡ length vs + length ds
  unfolding work_out
  length_run [] vs = omega arith
  length_run (d ∷ ds) vs =
      let s : List A = vs ++ (r.shows (length vs) (drive r vs d) ∷ []) in
      omega (arith, length_run ds s, length-append vs (r.shows (length vs) (drive r vs d) ∷ []))

  -- The values known stay.
  pub run-first : (ds : List (Driver A)) (vs : List A) (i : ℕ) (e : A) → i < length vs →
      get_or (work_out r ds vs) i e ≡ get_or vs i e
  unfolding work_out
  run-first [] vs i e h = refl
  run-first (d ∷ ds) vs i e h =
      let x = r.shows (length vs) (drive r vs d) in
      run-first ds (vs ++ (x ∷ [])) i e (omega (arith, length-append vs (x ∷ []))) ∙ get_or-append vs (x ∷ []) e i h

  pub run_take : (ds : List (Driver A)) (vs : List A) → take (length vs) (work_out r ds vs) ≡ vs
  unfolding work_out
  run_take [] vs = take-length vs
  run_take (d ∷ ds) vs =
      let x = r.shows (length vs) (drive r vs d) in
      let s = vs ++ (x ∷ []) in
      sym (take-take (length vs) (length s) (work_out r ds s) (omega (arith, length-append vs (x ∷ []))))
      ∙ ap (take (length vs)) (run_take ds s) ∙ take-append_seam vs (x ∷ [])

  -- Each further value is what its line shows of what its driver makes of the values before it.
  pub run_at : (ds : List (Driver A)) (vs : List A) (i : ℕ) (e : A) (d : Driver A) → i < length ds →
      get_or (work_out r ds vs) (length vs + i) e
      ≡ r.shows (length vs + i) (drive r (take (length vs + i) (work_out r ds vs)) (get_or ds i d))
  unfolding work_out
  run_at [] vs i e d h = absurd (not-suc-le-zero h)
  run_at (c ∷ ds) vs zero e d h =
      let x = r.shows (length vs) (drive r vs c) in
      rw (add-zero (length vs))
      (run-first ds (vs ++ (x ∷ [])) (length vs) e (omega (arith, length-append vs (x ∷ []))) ∙ get_or-append_seam vs x [] e
      ∙ ap (λ (us : List A). r.shows (length vs) (drive r us c)) (sym (run_take (c ∷ ds) vs)))
  run_at (c ∷ ds) vs (suc i) e d h =
      let x = r.shows (length vs) (drive r vs c) in
      let s = vs ++ (x ∷ []) in
      let w = work_out r ds s in
      let k : length s + i ≡ length vs + suc i = omega (arith, length-append vs (x ∷ [])) in
      subst (λ (k : ℕ). get_or w k e ≡ r.shows k (drive r (take k w) (get_or ds i d))) k (run_at ds s i e d (omega arith))

  pub run-append : (ds es : List (Driver A)) (vs : List A) → work_out r (ds ++ es) vs ≡ work_out r es (work_out r ds vs)
  unfolding work_out
  run-append [] es vs = refl
  run-append (d ∷ ds) es vs = run-append ds es (vs ++ (r.shows (length vs) (drive r vs d) ∷ []))

  pub run_more : (ds : List (Driver A)) (d : Driver A) (vs : List A) →
      work_out r (ds ++ (d ∷ [])) vs
      ≡ work_out r ds vs ++ (r.shows (length (work_out r ds vs)) (drive r (work_out r ds vs) d) ∷ [])
  unfolding work_out
  run_more ds d vs = run-append ds (d ∷ []) vs
