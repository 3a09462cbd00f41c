use Rattle.lines.proofs.Cutting.{feed_found, feed_missed, cut-ended, cut-open}
use Rattle.lines.proofs.pieces.cut_from.Goals as goal

pub returns-in-Some : goal.returns-in-Some
returns-in-Some c =
    let m = c.rest-rest.result.now in
    let f = feed_found m c.in-Some.ensures in
    cc (cut-ended c.args.t c.args.at m f.1, f.0, c.word.ensures, c.rest-rest.ensures)

pub returns-in-None : goal.returns-in-None
returns-in-None c =
    let m = c.rest-rest.result.now in
    cc (cut-open c.args.t c.args.at m (feed_missed m c.in-None.ensures), c.word-in-None.ensures, c.rest-rest.ensures)
