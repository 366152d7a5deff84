-- `place::nth` meets its contract, by what the four calls say together.
use Rattle.std.proofs.Common.{ℕ, List, Bor, ap, refl, ◌∙◌}
use Rattle.fields.specs.Fields.{Item, fields_from}
use Rattle.fields.proofs.Places.{item_by}
use Rattle.fields.proofs.Steps.{from_start}
use Rattle.reader.specs.Inner.Found.{found_in}
use Rattle.reader.proofs.Places.{found-at}
use Rattle.reader.proofs.place.nth.Goals as goal

pub returns : goal.returns
returns c =
    let made = c.new.result in
    let moved = c.skip-reader.result in
    let start = ap (λ (x : Bor (List ℕ)). fields_from x.now made.at) c.new.ensures.0 ∙ from_start c.args.file.now c.new.ensures.1 in
    c.value.ensures ∙ ap (found_in moved.src.now) c.next.ensures ∙ found-at moved.src.now moved.at
    ∙ ap (λ (i : Item). i.value) (item_by c.args.place (fields_from moved.src.now moved.at).items start c.skip-reader.ensures.1 refl)
