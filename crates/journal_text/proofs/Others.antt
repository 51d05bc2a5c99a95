-- The parts of the output beside the journal begin with their own words.
use Rattle.std.proofs.Common.{ℕ, List, [], ◌∷◌, ◌++◌, IsTrue, refl}
use Rattle.gpu_store.specs.Images.{Pictures}
use Rattle.journal_text.specs.Text.{stream_text}
use Rattle.journal_text.specs.Picture.{head_text, image_text, picture_text}
use Rattle.journal_text.specs.Lines.{name_text, mark_text, dump_text, view_text}
use Rattle.journal_text.specs.Laws.{begins_other_part, OthersBegin}

pub others_begin : OthersBegin
unfolding name_text head_text stream_text mark_text dump_text view_text
others_begin = record {
  head = λ behind. refl;
  name = λ stream name behind. refl;
  image = λ image width height behind. refl;
  stream = λ stream tally ended behind. refl;
  mark = λ ending value behind. refl;
  dump = λ stream place index value behind. refl;
  view = λ viewer events sum behind. refl;
}

-- so does the text of images, where there is one
pub picture_begins : (images : Pictures) (behind : List ℕ) → IsTrue (begins_other_part behind) → IsTrue (begins_other_part (picture_text images ++ behind))
unfolding picture_text image_text head_text
picture_begins [] behind other = other
picture_begins (entry ∷ images) behind other = refl
