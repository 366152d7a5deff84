-- A byte more is written by the arm that its value takes.
use Rattle.std.proofs.Common.{[], get_or, take, rules, sym, ap, ◌∙◌}
use Rattle.std.proofs.Output.{has_written_append, has_written_of_eq}
use Rattle.std.proofs.lemmas.List.{take_more, flat_map_more}
use Rattle.std.specs.List.{flat_map}
use Rattle.text.specs.Shown.{sign_text}
use Rattle.text.proofs.print.SignsDisplay.fmt.Goals as goal
use Rattle.text.proofs.print.SignsDisplay.fmt.Goals.{in-46+in_ok-write-in-46, in_default+in_ok-write-in_default}

pub loop-byte-preserved : goal.loop-byte-preserved
loop-byte-preserved g c = λ plain.
    let bytes = c.args.self.now.0.now in
    let i = c.loop-byte.byte-index in
    let joined = flat_map_more sign_text [] (take i bytes) (get_or bytes i 0) ∙ sym (ap (flat_map sign_text) (take_more bytes i 0 c.loop-byte-test.true)) in
    has_written_of_eq _ _ _ _ _ joined (has_written_append _ _ _ _ (sign_text (get_or bytes i 0)) _ (c.loop-byte.invariant plain) (elim c.match-byte.branch [
      | in-46+in_ok-write-in-46 w ↦ search rules
      | in_default+in_ok-write-in_default w ↦ search rules
    ]))
