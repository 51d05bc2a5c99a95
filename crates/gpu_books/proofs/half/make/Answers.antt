use Rattle.gpu_books.proofs.Keeping.{opens}
use Rattle.gpu_books.proofs.half.make.Goals as goal

pub of_words-requires : goal.of_words-requires
of_words-requires c = opens
