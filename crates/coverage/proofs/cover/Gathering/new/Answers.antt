-- `cover::Gathering::new` meets its contract.
use native.Mathlib.Omega.{arith}
use Prim.Native.Nat.{ℕ, ◌-◌, ◌^◌}
use mathlib.Core.Path.{ap, ◌∙◌}
use Rattle.coverage.proofs.Sheets.{sheet-limited, words-are, zero-at}
use Rattle.coverage.proofs.cover.Gathering.new.Goals as goal

pub overflow_shl-result : goal.overflow_shl-result
overflow_shl-result g c =
    let sheet = c.args.sheet.now in
    omega (arith, c.fixed_contacts.ensures, (sheet-limited sheet).contacts.1, sheet.counted.0)

pub invariant_of-result : goal.invariant_of-result
invariant_of-result g c =
    let sheet = c.args.sheet.now in
    let words = words-are sheet _ c.fixed_contacts.ensures in
    record {
      room = (
        omega (arith, (sheet-limited sheet).outputs.1, sheet.counted.1),
        omega (arith, words),
        rw words.0 c.requires.0,
        c.requires.1,
      );
    }

pub returns : goal.returns
returns g c =
    let sheet = c.args.sheet.now in
    record {
      size = (words-are sheet _ c.fixed_contacts.ensures).0 ∙ ap (λ (n : ℕ). 2 ^ (n - 6)) sheet.counted.0;
      count = sheet.counted.1;
      none = λ i. (zero-at 64 i, zero-at g.row.N i);
    }
