-- Why a service refuses, and the numbers that it gives for that.
use Rattle.std.specs.Prelude.{ℕ, Result, Ok, Err}
use Rattle.files.specs.declared.refusal.Refusal.{Refusal}
use Rattle.files.specs.declared.refusal.Refusal.TheVariants.{Framing, Contacts, Outputs, Levels, Range, Twins, Numbering, Room, Input, Form}
use Rattle.files.specs.declared.refusal.Refusal.TheVariants.{Wiring, Rails, Holds, Fanout, Drawing, Width, Rules, Shares, Gaps, Place}

-- The number of the question that got a no.
abbrev pub number_of : Refusal → ℕ
number_of Framing = 1
number_of Contacts = 2
number_of Outputs = 3
number_of Levels = 4
number_of Range = 5
number_of Twins = 6
number_of Numbering = 7
number_of Room = 9
number_of Input = 10
number_of Form = 11
number_of Wiring = 12
number_of Rails = 13
number_of Holds = 14
number_of Fanout = 15
number_of Drawing = 16
number_of Width = 17
number_of Rules = 18
number_of Shares = 19
number_of Gaps = 20
number_of Place = 21

-- The number of a result: 0, or its refusal's.
abbrev pub number_in : {A : Type 0} → Result A Refusal → ℕ
number_in (Ok a) = 0
number_in (Err r) = number_of r
