-- What the books of the code mean.
use Rattle.model.specs.Model.{Model}
use Rattle.books.specs.declared.list.ListBook.{ListBook}
use Rattle.books.specs.declared.table.TableBook.{TableBook}
use Rattle.books.specs.Listed.{list_model}
use Rattle.books.specs.Tables.{table_model}

abbrev pub list_means : ListBook → Model
list_means b = list_model b.sizes.conditions b.sizes.remedies b.sizes.parts b.listing.records.now b.worths.now

abbrev pub table_means : TableBook → Model
table_means b = table_model b.sizes.conditions b.sizes.remedies b.sizes.parts b.shares.now b.amounts.now b.worths.now
