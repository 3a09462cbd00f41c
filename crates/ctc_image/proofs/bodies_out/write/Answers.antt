use mathlib.Core.Path.{refl, ap, ◌∙◌}
use native.Mathlib.Omega.{arith}
use lib.ListN.{length}
use Rattle.bodies.specs.Layout.{contents_of}
use Rattle.bodies.proofs.Laid.{none, next}
use Rattle.ctc_image.specs.Layout.{layout_ctc, channel_bytes, channels_body, rest_body, image_ctc}
use Rattle.ctc_image.proofs.bodies_out.write.Goals as goal

pub returns : goal.returns
unfolding channel_bytes channels_body rest_body image_ctc
returns c =
    let e = c.args.buf.now in
    let room = c.requires in
    let s6 = c.lines in
    let s5 = c.channel-4 in
    let s4 = c.channel-3 in
    let s3 = c.channel-2 in
    let s2 = c.channel in
    let p1 = next {n = 0} (contents_of layout_ctc) 10 10 refl refl (omega (arith, room)) (none e) c.lay.ensures.0 in
    let p2 = next s2.result 7 17 (ap length s2.ensures) refl (omega (arith, room)) p1 c.lay-2.ensures.0 in
    let p3 = next s3.result 7 24 (ap length s3.ensures) refl (omega (arith, room)) p2 c.lay-3.ensures.0 in
    let p4 = next s4.result 7 31 (ap length s4.ensures) refl (omega (arith, room)) p3 c.lay-4.ensures.0 in
    let p5 = next s5.result 7 38 (ap length s5.ensures) refl (omega (arith, room)) p4 c.lay-5.ensures.0 in
    let p6 = next s6.result 3 41 (ap length s6.ensures) refl (omega (arith, room)) p5 c.lay-6.ensures.0 in
    p6.holds ∙ simp (s2.ensures, s3.ensures, s4.ensures, s5.ensures, s6.ensures)
