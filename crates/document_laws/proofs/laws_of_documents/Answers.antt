use Rattle.document_laws.proofs.Exact.{exact}
use Rattle.document_laws.proofs.Tables.{exact_tables}
use Rattle.document_laws.proofs.laws_of_documents.Goals as goal

pub returns : goal.returns
returns c = record { expressions = exact; tables = exact_tables }
