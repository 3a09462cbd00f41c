use Rattle.texts.specs.Answers.{answer_text}
use Rattle.texts.proofs.Writing.{wrote-more}
use Rattle.texts.proofs.written.answer.Goals as goal

pub returns : goal.returns
unfolding answer_text
returns c =
    let w2 = wrote-more c.decimal-i.ensures c.hex-j.ensures in
    let w3 = wrote-more w2 c.hex-k.ensures in
    let w4 = wrote-more w3 c.hex-l.ensures in
    let w5 = wrote-more w4 c.nibble-m.ensures in
    let w6 = wrote-more w5 c.flag-n.ensures in
    let w7 = wrote-more w6 c.flag-o.ensures in
    let w8 = wrote-more w7 c.report-p.ensures in
    wrote-more w8 c.put.ensures
