-- `header::count_contacts` meets its contract: question 2 asks for a number of tag 1, at most 12.
use Rattle.files.specs.Header.{contacts_in}
use Rattle.files.proofs.header.count_contacts.Goals as goal

pub returns : goal.returns
unfolding contacts_in
returns c = c.number_field.ensures
