-- What a step found.
use Rattle.std.specs.Prelude.{ℕ, List, []}
use Rattle.fields.specs.declared.Step.{Step}
use Rattle.fields.specs.declared.Step.TheVariants.{Next, End, Cut}
use Rattle.fields.specs.Fields.{value_of}

-- The value of the field that a step found; nothing where it found none.
abbrev pub found_in : List ℕ → Step → List ℕ
found_in file (Next f c) = value_of file f
found_in file End = []
found_in file Cut = []
