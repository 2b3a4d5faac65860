-- The core may go to any thread, so that any thread may use the service of it.
use denote.Ref.{NamedLft}
use denote.Param.Send.{IsSend, IsSync, owning_send, view_send, view_sync, sendable}
use Rattle.std.proofs.Crossing as heap
use Rattle.core_port.proofs.service.Service.TheSendSync as service
use Rattle.lend_block.specs.contracts.name.LoanName as name
use Rattle.lend_block.specs.contracts.note.Note as note
use Rattle.tbl_words.proofs.journal.TblJournal.TheSendSync as journal
use Rattle.tbl_words.proofs.uses.TblUse.TheSendSync as uses
use Rattle.table_core.proofs.plain.PlainTables.TheSendSync as plain
use Rattle.tbl_load.specs.contracts.noted.NotedJournal as noted
use Rattle.tbl_load.specs.contracts.tables.TblCore as core
use Rattle.tbl_service.specs.contracts.tables.Tables as tables

-- a loan's name owns nothing
name_send : IsSend name.the_row
name_send = owning_send name.the_type tt (λ d. tt) (λ k x w. tt)

note_send : IsSend note.the_row
note_send = let n = name_send in search sendable depth 20

noted_fields : IsSend noted.TheInside.the_row
noted_fields = let j = journal.the_send in let v = heap.Vec-send note.the_row note_send in let u = uses.the_send in search sendable depth 20

noted_send : IsSend noted.the_row
noted_send = view_send noted.TheInside.the_row _ _ _ _ noted_fields

core_fields : (r : NamedLft) → IsSend (core.TheInside.the_row r)
core_fields r = let p = plain.the_send r in let n = noted_send in search sendable depth 20

core_send : (r : NamedLft) → IsSend (core.the_row r)
core_send r = view_send (core.TheInside.the_row r) _ _ _ _ (core_fields r)

service_sync : (r : NamedLft) → IsSync (tables.TheInside.the_row r)
service_sync r = let k = core_send r in search (sendable, service.the_sync) depth 20

pub tables_sync : (r : NamedLft) → IsSync (tables.the_row r)
tables_sync r = view_sync (tables.TheInside.the_row r) _ _ _ _ (service_sync r)
