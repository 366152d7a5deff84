-- Lent buffers: question 9, and what writing from the start of one leaves.
use Rattle.std.specs.Prelude.{ℕ, zero, suc, cond, Result, Ok, Err, List, [], ◌∷◌, ◌++◌, leb}
use lib.ListN.{drop}
use Rattle.fields.specs.Refusals.{first_no}
use Rattle.files.specs.declared.refusal.Refusal.{Refusal}
use Rattle.files.specs.declared.room.Room.{Room}
use Rattle.files.specs.declared.room.Room.TheVariants.{Enough, Short}
use Rattle.files.specs.Refusals.{number_in}

-- 9. Is a lent buffer long enough? No: 9.
abbrev pub room_of : ℕ → ℕ → Room
room_of wanted lent = cond (leb wanted lent) Enough Short

abbrev pub room_number : Room → ℕ
room_number Enough = 0
room_number Short = 9

-- The bytes written from the start of a buffer; those past them keep their values.
abbrev pub over : List ℕ → List ℕ → List ℕ
over written buffer = written ++ drop (lib.ListN.length written) buffer

-- What a service that writes to one lent buffer returns, and what it leaves there.
pub record Writing : Type 0 where
  pub refusal : ℕ
  pub length : ℕ
  pub buffer : List ℕ

-- The length of a result: 0 with a refusal.
abbrev pub length_in : Result ℕ Refusal → ℕ
length_in (Ok n) = n
length_in (Err r) = 0

-- A result, the length or a refusal, with what the buffer holds after it.
abbrev pub written : Result ℕ Refusal → List ℕ → Writing
written result buffer = record { refusal = number_in result; length = length_in result; buffer = buffer }

-- It writes the bytes and returns how many they are; a refusal leaves the buffer as it came.
abbrev pub writing_or : ℕ → List ℕ → List ℕ → Writing
writing_or zero written buffer = record { refusal = 0; length = lib.ListN.length written; buffer = over written buffer }
writing_or (suc k) written buffer = record { refusal = suc k; length = 0; buffer = buffer }

-- The refusal of the questions before, then 9. Is the lent buffer long enough for the bytes?
unfoldable pub writing_of : ℕ → List ℕ → List ℕ → Writing
writing_of before written buffer =
    let room = room_of (lib.ListN.length written) (lib.ListN.length buffer) in
    writing_or (first_no (before ∷ room_number room ∷ [])) written buffer
