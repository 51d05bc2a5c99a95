use Rattle.verify_input.proofs.Names.{length, List, flat_map, PlansData, Event, same_lines, lines_of_image}
use Rattle.verify_input.specs.declared.what.What.TheVariants as what
use Rattle.verify_input.proofs.Dues.{IsTaking}
use Rattle.verify_input.proofs.Lefts.{images_left}
use Rattle.verify_input.proofs.sections.take_images.Given as goal

abbrev pub invariant-loop-image : goal.invariant-loop-image
invariant-loop-image l = (p : PlansData) (h : List Event) → IsTaking p h (same_lines what.Image (flat_map lines_of_image l.images)) (images_left l.images (length l.yielded)) l.fn.rest l.rest 0
