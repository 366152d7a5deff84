-- Worked drawings of one contact and one node: where the node leads, and that it may not lead to itself.
use mathlib.Core.Path.{◌≡◌, refl}
use mathlib.Core.Bool.{true, false}
use mathlib.Core.List.{[], ◌∷◌}
use Rattle.fields.specs.Bounded.{all}
use Rattle.drawing.specs.Drawing.{Drawing, is_above, is_drawing, next, lead, drawn_at}

-- The contact itself: its 0-edge goes to 0, its 1-edge to 1.
contact : Drawing
contact = record { contacts = 1; outputs = 2 ∷ []; nodes = 0 ∷ 0 ∷ 1 ∷ [] }

open-is-zero : drawn_at contact 0 (λ _. false) ≡ 0
unfolding contact next lead
open-is-zero = refl

closed-is-one : drawn_at contact 0 (λ _. true) ≡ 1
unfolding contact next lead
closed-is-one = refl

-- A node whose 0-edge goes to itself.
round : Drawing
round = record { contacts = 1; outputs = 2 ∷ []; nodes = 0 ∷ 2 ∷ 1 ∷ [] }

round-refused : is_drawing round ≡ false
unfolding round is_above is_drawing all
round-refused = refl
