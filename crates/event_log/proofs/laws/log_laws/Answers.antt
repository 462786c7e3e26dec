use Rattle.event_log.proofs.OneImport.{IsImportOf-unique, IsRead-unique}
use Rattle.event_log.proofs.SentLaws.{found}
use Rattle.event_log.proofs.laws.log_laws.Goals as goal

pub returns-clause-read_once : goal.returns-clause-read_once
returns-clause-read_once c = IsRead-unique

pub returns-clause-messages : goal.returns-clause-messages
returns-clause-messages c = found

pub returns-clause-one_import : goal.returns-clause-one_import
returns-clause-one_import c = IsImportOf-unique
