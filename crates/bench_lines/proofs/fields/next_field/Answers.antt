use mathlib.Core.Path.{sym}
use Rattle.bench_lines.proofs.Reading.{hole-says}
use Rattle.bench_lines.proofs.fields.next_field.Goals as goal

pub returns-in_default-clause-says_value : goal.returns-in_default-clause-says_value
returns-in_default-clause-says_value c = rw c.in_default.is (sym (hole-says c.args.place))
