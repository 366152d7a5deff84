-- What writing a table returns and leaves, by the answers to questions 17 and 9.
use Prim.Native.Nat.{ℕ, ◌≤◌, ◌<◌}
use native.Mathlib.Omega.{arith}
use mathlib.Core.Path.{◌≡◌, refl, sym, ap, ap₂, ◌∙◌}
use mathlib.Core.Bool.{Bool, true, false, cond}
use mathlib.Core.List.{List}
use lib.ListN.{length, take}
use lib.Seq.{sets}
use Rattle.std.proofs.Common.{Some, None, Result, Ok, Err}
use Rattle.diagram.specs.Diagram.{Input}
use Rattle.files.specs.declared.room.Room.TheVariants.{Enough, Short}
use Rattle.files.specs.declared.refusal.Refusal.{Refusal}
use Rattle.files.specs.declared.refusal.Refusal.TheVariants.{Width, Room}
use Rattle.files.specs.Room.{room_of, written, writing_of}
use Rattle.files.proofs.Buffers.{enough, sets_over, taken_back}
use Rattle.files.proofs.Writing.{refused-before, too_short, written-whole}
use Rattle.table.specs.Encode.{bytes_of}
use Rattle.functions.specs.Functions.{Function, functions_of, canonical, is_narrow}
use Rattle.functions.proofs.Agreeing.{narrow-same, table_same}
use Rattle.functions.proofs.Trees.{functions-same}
use Rattle.canonical.specs.Service.{laid_of, laid_number, tabling_of}

-- Question 17's number.
abbrev pub narrow_number : Bool → ℕ
narrow_number b = cond b 0 17

pub laid-number : (n m : ℕ) (f : ℕ → Function) → laid_number (laid_of n m f) ≡ narrow_number (is_narrow n m f)
laid-number n m f = go (is_narrow n m f)
  where
    go : (b : Bool) → laid_number (cond b (Some (length (bytes_of (canonical n m f)))) None) ≡ narrow_number b
    go true = refl
    go false = refl

pub narrow-if : (b : Bool) → narrow_number b ≡ 0 → b ≡ true
narrow-if true e = refl
narrow-if false e = absurd (omega arith)

pub wide-if : (b : Bool) → narrow_number b ≡ 17 → b ≡ false
wide-if true e = absurd (omega arith)
wide-if false e = refl

module _ (n m : ℕ) (f : ℕ → Function) where
  abbrev bytes : List ℕ
  bytes = bytes_of (canonical n m f)

  pub whole_is : {k : ℕ} → laid_of n m f ≡ Some k → (is_narrow n m f ≡ true) × (k ≡ length bytes)
  whole_is {k} = go (is_narrow n m f) refl
    where
      go : (b : Bool) → is_narrow n m f ≡ b → cond b (Some (length bytes)) None ≡ Some k →
          (is_narrow n m f ≡ true) × (k ≡ length bytes)
      go true e q = (e, cc)
      go false e q = absurd (let z : ◌≡◌ {A = ℕ} 0 1 = cc in omega arith)

  -- The start of a file that was laid out is the table's.
  pub laid-bytes : (zeros : List ℕ) {k : ℕ} {file : List ℕ} → laid_of n m f ≡ Some k → k ≤ length zeros →
      file ≡ sets zeros 0 bytes → take k file ≡ bytes
  laid-bytes zeros {k} e room h = ap (take k) h ∙ taken_back bytes zeros (omega (arith, (whole_is e).1)) k (whole_is e).1

  module _ (buffer : List ℕ) where
    -- It returns this and leaves this.
    abbrev Tabled : Result ℕ Refusal → List ℕ → Type 0
    Tabled result after = written result after ≡ tabling_of n m f buffer

    pub tabled-wide : laid_of n m f ≡ None → Tabled (Err Width) buffer
    unfolding tabling_of
    tabled-wide e = refused-before bytes buffer Width (sym (ap laid_number e))

    module _ {k : ℕ} (e : laid_of n m f ≡ Some k) where
      number : laid_number (laid_of n m f) ≡ 0
      number = ap laid_number e

      pub tabled-short : room_of k (length buffer) ≡ Short → Tabled (Err Room) buffer
      unfolding tabling_of
      tabled-short q =
          too_short bytes buffer (rw (whole_is e).1 at q) ∙ ap (λ (j : ℕ). writing_of j bytes buffer) (sym number)

      pub tabled-whole : {after : List ℕ} → room_of k (length buffer) ≡ Enough → after ≡ sets buffer 0 bytes → Tabled (Ok k) after
      unfolding tabling_of
      tabled-whole q a =
          let size = (whole_is e).1 in
          let room = rw size at q in
          written-whole bytes buffer room size (a ∙ sets_over bytes buffer (enough (length bytes) (length buffer) room))
          ∙ ap (λ (j : ℕ). writing_of j bytes buffer) (sym number)

-- Functions that agree below m are written alike.
pub tabling-same : (n m : ℕ) (f g : ℕ → Function) (buffer : List ℕ) → ((j : ℕ) → j < m → f j ≡ g j) →
    tabling_of n m f buffer ≡ tabling_of n m g buffer
unfolding tabling_of
tabling-same n m f g buffer agree =
    ap₂ (λ (b : Bool) (bytes : List ℕ). writing_of (laid_number (cond b (Some (length bytes)) None)) bytes buffer)
    (narrow-same n m f g agree) (table_same n m f g agree)

-- Values that agree, and counts that are the same.
pub tabling-agrees : (n n' m m' : ℕ) (v w : ℕ → Input → ℕ) (buffer : List ℕ) → n ≡ n' → m ≡ m' →
    ((j : ℕ) → j < m → (x : Input) → v j x ≡ w j x) → tabling_of n m (functions_of n v) buffer ≡ tabling_of n' m' (functions_of n' w) buffer
tabling-agrees n n' m m' v w buffer contacts outputs agree =
    tabling-same n m (functions_of n v) (functions_of n w) buffer (functions-same n m v w agree)
    ∙ ap₂ (λ (n m : ℕ). tabling_of n m (functions_of n w) buffer) contacts outputs
