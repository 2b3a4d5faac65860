-- The numbers with which the program ends, and what an end says of failures.
use Rattle.std.specs.Prelude.{ℕ, Bool, true, false}
use Rattle.host_serve.specs.declared.status.HostStatus.{HostStatus}
use Rattle.host_serve.specs.declared.status.HostStatus.TheVariants.{Done, Usage, Script, ReadFault, WriteFault, NoMemory, MissingPart, Illegal, Image}

abbrev pub exit_status : HostStatus → ℕ
exit_status Done = 0
exit_status Usage = 2
exit_status (Script fault) = 3
exit_status ReadFault = 4
exit_status WriteFault = 5
exit_status (NoMemory refused) = 6
exit_status MissingPart = 3
exit_status (Illegal line) = 7
exit_status (Image fault) = 8

-- whether it tells that the source failed
abbrev pub is_read_fault : HostStatus → Bool
is_read_fault Done = false
is_read_fault Usage = false
is_read_fault (Script fault) = false
is_read_fault ReadFault = true
is_read_fault WriteFault = false
is_read_fault (NoMemory refused) = false
is_read_fault MissingPart = false
is_read_fault (Illegal line) = false
is_read_fault (Image fault) = false

-- whether it tells that the sink failed
abbrev pub is_write_fault : HostStatus → Bool
is_write_fault Done = false
is_write_fault Usage = false
is_write_fault (Script fault) = false
is_write_fault ReadFault = false
is_write_fault WriteFault = true
is_write_fault (NoMemory refused) = false
is_write_fault MissingPart = false
is_write_fault (Illegal line) = false
is_write_fault (Image fault) = false

-- it tells that memory was refused
abbrev pub IsNoMemory : HostStatus → Type 0
IsNoMemory Done = ⊥
IsNoMemory Usage = ⊥
IsNoMemory (Script fault) = ⊥
IsNoMemory ReadFault = ⊥
IsNoMemory WriteFault = ⊥
IsNoMemory (NoMemory refused) = Unit {0}
IsNoMemory MissingPart = ⊥
IsNoMemory (Illegal line) = ⊥
IsNoMemory (Image fault) = ⊥
