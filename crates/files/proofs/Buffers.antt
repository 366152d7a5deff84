-- What a yes to question 9 says, and the laws of bytes written over the start of a buffer.
use borrow.Author.Tests.{leb-true}
use native.Mathlib.Nat.{add-sub_of_le, zero-add}
use native.Mathlib.Omega.{arith}
use Prim.Native.Nat.{ℕ, suc, ◌+◌, ◌-◌, ◌≤◌, ◌<◌}
use mathlib.Core.Path.{◌≡◌, refl, sym, ap, ◌∙◌}
use mathlib.Core.Bool.{Bool, true, false, cond}
use mathlib.Core.List.{List, [], ◌∷◌, ◌++◌, append_assoc}
use lib.Dec.{leb}
use lib.ListN.{length, get_or, take, drop, set, length-append, take-append-drop, get_or-append}
use lib.Seq.{sets, sets-eq, length-take-le, drop-cons, drop-drop, drop-append-add, take_at, set-append_seam}
use Rattle.files.specs.declared.room.Room.TheVariants.{Enough, Short}
use Rattle.files.specs.Room.{room_of, over}

pub enough : (wanted lent : ℕ) → room_of wanted lent ≡ Enough → wanted ≤ lent
enough wanted lent = go (leb wanted lent) refl
  where
    go : (b : Bool) → leb wanted lent ≡ b → cond b Enough Short ≡ Enough → wanted ≤ lent
    go true t e = leb-true _ _ t
    go false t e = absurd (let z : ◌≡◌ {A = ℕ} 0 1 = cc in omega arith)

module _ (ws buffer : List ℕ) where
  pub over-at : (i : ℕ) → i < length ws → get_or (over ws buffer) i 0 ≡ get_or ws i 0
  over-at i h = get_or-append ws (drop (length ws) buffer) 0 i h

  pub over-set : (x : ℕ) → length ws < length buffer → set (over ws buffer) (length ws) x ≡ over (ws ++ (x ∷ [])) buffer
  over-set x h =
      let l : length (ws ++ (x ∷ [])) ≡ suc (length ws) = simp length-append (omega arith) in
      ap (λ (b : List ℕ). set (ws ++ b) (length ws) x) (drop-cons buffer (length ws) 0 h)
      ∙ set-append_seam ws (get_or buffer (length ws) 0) (drop (suc (length ws)) buffer) x
      ∙ sym (ap (λ (k : ℕ). (ws ++ (x ∷ [])) ++ drop k buffer) l ∙ append_assoc ws (x ∷ []) (drop (suc (length ws)) buffer))

  -- What is written over a shorter beginning covers it.
  pub over-over : (vs : List ℕ) → length vs ≤ length ws → over ws (over vs buffer) ≡ over ws buffer
  over-over vs h =
      let k = length ws - length vs in
      let e : length vs + k ≡ length ws = add-sub_of_le h in
      ap (◌++◌ ws)
      (ap (λ (n : ℕ). drop n (over vs buffer)) (sym e) ∙ drop-append-add vs (drop (length vs) buffer) k
      ∙ drop-drop k (length vs) buffer ∙ ap (λ (n : ℕ). drop n buffer) e)

pub over-own : (k : ℕ) (buffer : List ℕ) → k ≤ length buffer → buffer ≡ over (take k buffer) buffer
over-own k buffer h = sym (rw (length-take-le k buffer h) (take-append-drop k buffer))

-- What is written from the start of a buffer stands over it.
module _ (ws buffer : List ℕ) (room : length ws ≤ length buffer) where
  pub sets_over : sets buffer 0 ws ≡ over ws buffer
  sets_over = sets-eq ws buffer 0 (omega arith) ∙ ap (λ (k : ℕ). ws ++ drop k buffer) (zero-add (length ws))

  pub taken_back : (k : ℕ) → k ≡ length ws → take k (sets buffer 0 ws) ≡ ws
  taken_back k e = ap (take k) sets_over ∙ take_at ws (drop (length ws) buffer) k (sym e)

  pub written_at : (i : ℕ) → i < length ws → get_or (sets buffer 0 ws) i 0 ≡ get_or ws i 0
  written_at i h = ap (λ (l : List ℕ). get_or l i 0) sets_over ∙ over-at ws buffer i h
