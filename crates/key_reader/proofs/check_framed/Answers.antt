-- `key_reader::check_framed` says that what passes is long enough for a key.
use Rattle.key_reader.proofs.Reading.{long_framed}
use Rattle.key_reader.proofs.check_framed.Goals as goal

pub returns-clause-long : goal.returns-clause-long
returns-clause-long c = long_framed c.args.attribute.now c.check_frame.result c.check_frame.ensures
