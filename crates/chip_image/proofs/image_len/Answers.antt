use Rattle.bodies.proofs.LayoutLaw.{length-of}
use Rattle.chip_image.specs.ChipImage.{length_chip}
use Rattle.chip_image.proofs.image_len.Goals as goal

pub returns-in-Z8036 : goal.returns-in-Z8036
unfolding length_chip
returns-in-Z8036 c = simp (c.in-Z8036.is, length-of, c.image_len.ensures)
