-- `service::write` meets its contract: refused by question 19 or 20, or the table of the functions that the truth tables give.
use native.Mathlib.Omega.{arith}
use mathlib.Core.Path.{◌≡◌, sym, ap, ◌∙◌}
use lib.ListN.{length}
use Rattle.std.proofs.Common.{rules}
use Rattle.files.specs.declared.refusal.Refusal.TheVariants.{Shares, Gaps}
use Rattle.rulesheet.specs.Rules.{rule_sheet_in}
use Rattle.coverage.specs.Coverage.{gaps_of}
use Rattle.coverage.specs.Inner.Gathering.{gaps_by}
use Rattle.coverage.proofs.Covers.{gaps-are}
use Rattle.coverage.proofs.Outcomes.{refused-shared, refused-open, refused-by}
use Rattle.coverage.proofs.Sheets.{sheet-limited, written_by}
use Rattle.coverage.proofs.service.write.Goals.{After-ask_gaps}
use Rattle.coverage.proofs.service.write.Goals as goal

-- Question 20, once question 19 has its yes.
asked : (g : _) (c : After-ask_gaps g) → c.ask_gaps.result ≡ gaps_of (rule_sheet_in c.args.sheet.now.file.now)
asked g c =
    c.ask_gaps.ensures ∙ ap (gaps_by c.ask_shares.new.self.ruled) (c.ask_shares.ensures.same.0 ∙ c.new-gathering.ensures.size)
    ∙ gaps-are (rule_sheet_in c.args.sheet.now.file.now) _ _ (c.ask_shares.ensures.gathered c.in-Apart.is)

pub returns-in_default : goal.returns-in_default
returns-in_default g c =
    let sheet = c.args.sheet.now in
    refused-by sheet.file.now _ Shares (refused-shared sheet.file.now sheet.formed (sym c.ask_shares.ensures.value ∙ c.in_default.is))

pub returns-in_default-ask_gaps : goal.returns-in_default-ask_gaps
returns-in_default-ask_gaps g c =
    let sheet = c.args.sheet.now in
    refused-by sheet.file.now _ Gaps
    (refused-open sheet.file.now sheet.formed (sym c.ask_shares.ensures.value ∙ c.in-Apart.is)
    (sym (asked g (goal.at.returns-in_default-ask_gaps g c).After-ask_gaps) ∙ c.in_default-ask_gaps.is))

pub write-requires : goal.write-requires
write-requires g c =
    let sheet = c.args.sheet.now in
    let limits = sheet-limited sheet in
    let long : length c.ask_shares.new.self.truths ≡ g.row.N = search rules in (
      omega (arith, limits.contacts.0, sheet.counted.0),
      omega (arith, limits.contacts.1, sheet.counted.0),
      omega (arith, limits.outputs.0, sheet.counted.1),
      omega (arith, limits.outputs.1, sheet.counted.1),
      omega (arith, long, c.requires.0),
      omega (arith, long, c.requires.1),
    )

pub returns : goal.returns
returns g c =
    c.write.ensures
    ∙ written_by c.args.sheet.now _ _ (c.ask_shares.ensures.gathered c.in-Apart.is) _ (sym c.ask_shares.ensures.value ∙ c.in-Apart.is)
    (sym (asked g (goal.at.returns g c).After-ask_gaps) ∙ c.in-Covered.is)
