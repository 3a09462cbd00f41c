use Rattle.texts.specs.Answers.{decimal_text}
use Rattle.texts.proofs.Writing.{wrote-more}
use Rattle.texts.proofs.written.places.Goals as goal

pub returns : goal.returns
unfolding decimal_text
returns c =
    let w2 = wrote-more c.place-i9.ensures c.place-i8.ensures in
    let w3 = wrote-more w2 c.place-i7.ensures in
    let w4 = wrote-more w3 c.place-i6.ensures in
    let w5 = wrote-more w4 c.place-i5.ensures in
    let w6 = wrote-more w5 c.place-i4.ensures in
    let w7 = wrote-more w6 c.place-i3.ensures in
    let w8 = wrote-more w7 c.place-i2.ensures in
    let w9 = wrote-more w8 c.place-i1.ensures in
    wrote-more w9 c.put.ensures
