-- `Product::entry` meets its contract: always, or the lines among the terms joined.
use mathlib.Core.Path.{sym, ◌∙◌}
use Rattle.products.proofs.Entries.{entry-sure, entry-terms, entry-joins, entry-rest}
use Rattle.products.proofs.product.Product.entry.Goals as goal

pub returns : goal.returns
returns c =
    entry-joins _ _ _ _ _ (sym c.crosses.ensures ∙ c.if-crosses.false) c.terms-lines.ensures.grown c.terms-lines.ensures.lines
    (rw c.as_slice-2.ensures.are at c.join_lines.ensures)

pub returns-then-crosses : goal.returns-then-crosses
returns-then-crosses c = entry-sure _ _ _ _ _ (sym c.crosses.ensures ∙ c.if-crosses.true)

pub terms-lines-requires-clause-room_for : goal.terms-lines-requires-clause-room_for
terms-lines-requires-clause-room_for c =
    entry-terms _ _ _ _ _ (sym c.crosses.ensures ∙ c.if-crosses.false) c.requires.room_for

pub join_lines-requires : goal.join_lines-requires
join_lines-requires c =
    rw c.as_slice-2.ensures.are
    (entry-rest _ _ _ _ _ (sym c.crosses.ensures ∙ c.if-crosses.false) c.terms-lines.ensures.grown c.terms-lines.ensures.lines
    c.requires.room_for)
