-- The core may go to any thread, so that any thread may use the service of it; and an application's port may go to its thread.
use denote.Builtin.{u8}
use denote.Ref.{NamedLft}
use denote.Slice.{MutSlice}
use denote.Param.Send.{IsSend, IsSync, owning_send, view_send, view_sync, sendable}
use Rattle.std.proofs.Crossing as heap
use Rattle.core_port.proofs.service.Service.TheSendSync as service
use Rattle.lend_block.specs.contracts.name.LoanName as name
use Rattle.lend_block.specs.contracts.note.Note as note
use Rattle.lend_block.specs.contracts.view.View as view
use Rattle.lend_block.proofs.view.View.TheSendSync as views
use Rattle.buf_desc.specs.contracts.front.RefMutSliceU8Memory.TheImpl as memory
use Rattle.bus_words.proofs.journal.BusJournal.TheSendSync as journal
use Rattle.bus_core.proofs.plain.PlainBus.TheSendSync as plain
use Rattle.sb_calls.specs.contracts.noted.NotedJournal as noted
use Rattle.sb_calls.specs.contracts.journalled.BusCore as core
use Rattle.bus_service.specs.contracts.bus.Bus as bus
use Rattle.bus_service.specs.contracts.ports.PortOf as port
use Rattle.bus_service.specs.contracts.unsent.ViewMessageView.TheImpl as shown
use Rattle.bus_service.proofs.ports.PortOf.TheSendSync as ports

-- a loan's name owns nothing
name_send : IsSend name.the_row
name_send = owning_send name.the_type tt (λ d. tt) (λ k x w. tt)

note_send : IsSend note.the_row
note_send = let n = name_send in search sendable depth 20

noted_fields : IsSend noted.TheInside.the_row
noted_fields = let j = journal.the_send in let v = heap.Vec-send note.the_row note_send in search sendable depth 20

noted_send : IsSend noted.the_row
noted_send = view_send noted.TheInside.the_row _ _ _ _ noted_fields

core_fields : (r : NamedLft) → IsSend (core.TheInside.the_row r)
core_fields r = let p = plain.the_send r in let n = noted_send in search sendable depth 20

core_send : (r : NamedLft) → IsSend (core.the_row r)
core_send r = view_send (core.TheInside.the_row r) _ _ _ _ (core_fields r)

service_sync : (r : NamedLft) → IsSync (bus.TheInside.the_row r)
service_sync r = let k = core_send r in search (sendable, service.the_sync) depth 20

pub bus_sync : (r : NamedLft) → IsSync (bus.the_row r)
bus_sync r = view_sync (bus.TheInside.the_row r) _ _ _ _ (service_sync r)

bytes_send : (r : NamedLft) → IsSend (MutSlice r.mir r.lft u8)
bytes_send r = search sendable

pub port_send : (r : NamedLft) → IsSend (port.the_row (MutSlice r.mir r.lft u8) (view.the_row r) memory.ghosts shown.ghosts)
port_send r = ports.the_send (MutSlice r.mir r.lft u8) (view.the_row r) memory.ghosts shown.ghosts (bytes_send r) (views.the_send r)
