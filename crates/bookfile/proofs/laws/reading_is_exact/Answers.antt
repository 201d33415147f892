use Rattle.bookfile.proofs.laws.reading_is_exact.Goals as goal
use Rattle.bookfile.proofs.Rereading.{written_then_read}
use Rattle.bookfile.proofs.Rewriting.{read_then_written}
use Rattle.bookfile.proofs.Exactness.{reading_is_exact_lem, one_book_a_file, one_file_a_book}

pub returns : goal.returns
returns c = record { exact = reading_is_exact_lem; same_file = read_then_written; same_book = written_then_read; one_book = one_book_a_file; one_file = one_file_a_book }
