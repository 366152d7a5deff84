-- What probe returns to C.
use Rattle.std.specs.Prelude.{ℕ, List}
use Rattle.stuck.specs.declared.answer.Way.{Way}
use Rattle.stuck.specs.declared.answer.Way.TheVariants.{BothLow, BothHigh, Hidden}
use Rattle.stuck.specs.Service.{Answer, Probing, probing_of}
use Rattle.answers.specs.declared.Probed.{Probed}

-- Low is 0, high is 1, hidden is 2.
abbrev pub way_number : Way → ℕ
way_number BothLow = 0
way_number BothHigh = 1
way_number Hidden = 2

abbrev pub probed_by : Answer → Probed
probed_by p = record { refusal = p.refusal; input = p.input; output = p.output; way = way_number p.way }

-- What probe returns to C, and what it leaves in the lent buffer.
unfoldable pub probe_of : List ℕ → List ℕ → List ℕ → Probing Probed
probe_of table hold buffer =
    record { answer = probed_by (probing_of table hold buffer).answer; buffer = (probing_of table hold buffer).buffer }
