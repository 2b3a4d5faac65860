-- The call that each line of a script makes: of the bus, of the tables, or none.
use Rattle.std.specs.Prelude.{ℕ, List, replicate, slice_index, Option, Some, None}
use Rattle.bus_words.specs.declared.history.Call.{Call}
use Rattle.bus_words.specs.declared.history.Call.TheVariants as calls
use Rattle.tbl_words.specs.declared.history.Call.{Call as TableCall}
use Rattle.tbl_words.specs.declared.history.Call.TheVariants as table_calls
use Rattle.script_lines.specs.declared.line.Line.{Line}
use Rattle.script_lines.specs.declared.line.Line.TheVariants as lines
use Rattle.script_runs.specs.Messages.{sent_message, content_bytes}
use Rattle.script_runs.specs.Written.{Written, bytes_in}

-- An application's registers of what the bus numbers: of pipes, of unsent buffers, of memory pools
-- and of their grants.
pub record Registers : Type 0 where
  pub pipes : List ℕ
  pub buffers : List ℕ
  pub pools : List ℕ
  pub grants : List ℕ

-- at first all are 0: 64 of pipes, 64 of buffers, 8 of pools and 64 of grants
abbrev pub first_registers : Registers
first_registers =
    record {
      pipes = replicate 64 0;
      buffers = replicate 64 0;
      pools = replicate 8 0;
      grants = replicate 64 0;
    }

-- What a line calls: the bus, by its registers and what was written into buffers; the tables, by
-- its registers of handles; or neither.
pub data LineCall : Type 0 where
  AtBus : (Registers → Written → Call) → LineCall
  AtTables : (List ℕ → TableCall) → LineCall
  NoCall : LineCall

-- The call that a line makes. A buffer is sent with its bytes as they were written, and with none
-- if the application has no such buffer.
unfoldable pub line_call_of : Line → LineCall
line_call_of (lines.Create pipe depth name) = AtBus (λ registers written. calls.Create depth name)
line_call_of (lines.Delete pipe) =
    AtBus (λ registers written. calls.Delete (slice_index registers.pipes pipe))
line_call_of (lines.SetOpts pipe bits) =
    AtBus (λ registers written. calls.SetOpts (slice_index registers.pipes pipe) bits)
line_call_of (lines.GetOpts pipe) =
    AtBus (λ registers written. calls.GetOpts (slice_index registers.pipes pipe))
line_call_of (lines.Find pipe name) = AtBus (λ registers written. calls.Find name)
line_call_of (lines.PipeName pipe) =
    AtBus (λ registers written. calls.PipeName (slice_index registers.pipes pipe))
line_call_of (lines.Subscribe id pipe limit scope) =
    AtBus (λ registers written. calls.Subscribe id (slice_index registers.pipes pipe) limit scope)
line_call_of (lines.Unsubscribe id pipe) =
    AtBus (λ registers written. calls.Unsubscribe id (slice_index registers.pipes pipe))
line_call_of (lines.Send id size fill inc) =
    AtBus (λ registers written. calls.Transmit (sent_message id size fill) inc)
line_call_of (lines.SendRaw bytes inc) = AtBus (λ registers written. calls.Transmit bytes inc)
line_call_of (lines.Receive pipe) =
    AtBus (λ registers written. calls.Receive (slice_index registers.pipes pipe))
line_call_of (lines.Pend pipe) =
    AtBus (λ registers written. calls.Pend (slice_index registers.pipes pipe))
line_call_of (lines.Allocate buf size) = AtBus (λ registers written. calls.Allocate size)
line_call_of (lines.TransmitBuffer buf inc) =
    AtBus (λ registers written.
    calls.TransmitBuffer (slice_index registers.buffers buf)
    (bytes_in written (slice_index registers.buffers buf)) inc)
line_call_of (lines.Release buf) =
    AtBus (λ registers written. calls.Release (slice_index registers.buffers buf))
line_call_of (lines.PoolCreate pool bytes) = AtBus (λ registers written. calls.PoolCreate bytes)
line_call_of (lines.PoolGet grant pool size) =
    AtBus (λ registers written. calls.PoolGet (slice_index registers.pools pool) size)
line_call_of (lines.PoolPut pool grant) =
    AtBus (λ registers written.
    calls.PoolPut (slice_index registers.pools pool) (slice_index registers.grants grant))
line_call_of (lines.PoolFigures pool) =
    AtBus (λ registers written. calls.PoolFigures (slice_index registers.pools pool))
line_call_of (lines.Register filters) = AtBus (λ registers written. calls.Register filters)
line_call_of (lines.SendEvent id kind text) =
    AtBus (λ registers written. calls.SendEvent id kind text)
line_call_of (lines.ResetFilter id) = AtBus (λ registers written. calls.ResetFilter id)
line_call_of (lines.LogMode mode) = AtBus (λ registers written. calls.LogMode mode)
line_call_of lines.ClearLog = AtBus (λ registers written. calls.ClearLog)
line_call_of lines.Housekeeping = AtBus (λ registers written. calls.Housekeeping)
line_call_of lines.Figures = AtBus (λ registers written. calls.Figures)
line_call_of (lines.TableRegister handle name size option rules) =
    AtTables (λ handles. table_calls.Register name size option rules)
line_call_of (lines.TableShare handle name) = AtTables (λ handles. table_calls.Share name)
line_call_of (lines.TableUnregister handle) =
    AtTables (λ handles. table_calls.Unregister (slice_index handles handle))
line_call_of (lines.Stage handle offset content) =
    AtTables (λ handles.
    table_calls.Stage (slice_index handles handle) offset (content_bytes content))
line_call_of (lines.Validate handle) =
    AtTables (λ handles. table_calls.Validate (slice_index handles handle))
line_call_of (lines.Update handle) =
    AtTables (λ handles. table_calls.Update (slice_index handles handle))
line_call_of (lines.Abort handle) =
    AtTables (λ handles. table_calls.Abort (slice_index handles handle))
line_call_of (lines.Load handle offset content) =
    AtTables (λ handles.
    table_calls.Load (slice_index handles handle) offset (content_bytes content))
line_call_of (lines.GetAddress handle) =
    AtTables (λ handles. table_calls.GetAddress (slice_index handles handle))
line_call_of (lines.ReleaseAddress handle) =
    AtTables (λ handles. table_calls.ReleaseAddress (slice_index handles handle))
line_call_of (lines.Status handle) =
    AtTables (λ handles. table_calls.Status (slice_index handles handle))
line_call_of (lines.Form buf id fill) = NoCall
line_call_of (lines.Put buf offset bytes) = NoCall
line_call_of (lines.ShowPipe pipe) = NoCall
line_call_of (lines.ShowTable handle) = NoCall

-- the call of the bus, its registers filled in; None for one of the tables and for none
abbrev pub bus_call : Registers → Written → LineCall → Option Call
bus_call registers written (AtBus made) = Some (made registers written)
bus_call registers written made = None

-- the call of the tables, its register filled in; None for one of the bus and for none
abbrev pub table_call : List ℕ → LineCall → Option TableCall
table_call handles (AtTables made) = Some (made handles)
table_call handles made = None
