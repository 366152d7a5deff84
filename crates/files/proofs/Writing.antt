-- What a service that writes to one lent buffer returns and leaves, by what it asks.
use Prim.Native.Nat.{ℕ, zero, suc}
use native.Mathlib.Omega.{arith}
use mathlib.Core.Path.{◌≡◌, refl}
use mathlib.Core.List.{List, [], ◌∷◌}
use lib.ListN.{length}
use Rattle.std.specs.Prelude.{Ok, Err}
use Rattle.fields.specs.Refusals.{first_no}
use Rattle.files.specs.declared.refusal.Refusal.{Refusal}
use Rattle.files.specs.declared.refusal.Refusal.TheVariants.{Room}
use Rattle.files.specs.declared.room.Room.TheVariants.{Enough, Short}
use Rattle.files.specs.Refusals.{number_of}
use Rattle.files.specs.Room.{room_of, room_number, over, written, writing_or, writing_of}
use Rattle.files.proofs.Refusals.{above_zero}

module _ (bytes buffer : List ℕ) where
  -- A no to a question before question 9.
  pub refused-before : {before : ℕ} (r : Refusal) → number_of r ≡ before → written (Err r) buffer ≡ writing_of before bytes buffer
  unfolding writing_of first_no
  refused-before r e =
      let a = above_zero r in
      rw (← e, a.1) refl

  pub too_short : room_of (length bytes) (length buffer) ≡ Short → written (Err Room) buffer ≡ writing_of 0 bytes buffer
  unfolding writing_of first_no
  too_short e = rw e refl

  pub written-whole : {n : ℕ} {after : List ℕ} → room_of (length bytes) (length buffer) ≡ Enough → n ≡ length bytes →
      after ≡ over bytes buffer → written (Ok n) after ≡ writing_of 0 bytes buffer
  unfolding writing_of first_no
  written-whole e l a = rw (e, l, a) refl

-- A refusal has the length zero and leaves the buffer as it came.
refused-or : (r : ℕ) (written buffer : List ℕ) (k : ℕ) → (writing_or r written buffer).refusal ≡ suc k →
    ((writing_or r written buffer).length ≡ 0) × ((writing_or r written buffer).buffer ≡ buffer)
refused-or zero written buffer k e = absurd (omega arith)
refused-or (suc r) written buffer k e = (refl, refl)

pub refused-writing : (before : ℕ) (written buffer : List ℕ) (k : ℕ) → (writing_of before written buffer).refusal ≡ suc k →
    ((writing_of before written buffer).length ≡ 0) × ((writing_of before written buffer).buffer ≡ buffer)
unfolding writing_of
refused-writing before written buffer =
    refused-or (first_no (before ∷ room_number (room_of (length written) (length buffer)) ∷ [])) written buffer
