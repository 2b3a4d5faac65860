use Rattle.std.proofs.Common.{ℕ, List, sym, ap, ◌∙◌}
use Rattle.tbl_rules.specs.declared.rules.Rule.{Rule}
use Rattle.script_lines.specs.declared.line.Line.TheVariants.{Create, Find, SendRaw, SendEvent, TableRegister, TableShare, Put}
use Rattle.text_page.proofs.PieceTexts.{puts_as}
use Rattle.script_text.specs.Spelling.{line_words, line_text}
use Rattle.script_text.proofs.line_printing.print_line.Goals as goal

pub returns-in-Create : goal.returns-in-Create
unfolding line_words
returns-in-Create g c =
    puts_as (line_text c.args.line.now) (ap line_text (sym c.in-Create.is))
    (puts_as _ (ap (λ (x : List ℕ). line_text (Create c.in-Create.pipe c.in-Create.depth x)) c.as_slice.ensures) c.put_create.ensures)

pub returns-in-Delete : goal.returns-in-Delete
unfolding line_words
returns-in-Delete g c = puts_as (line_text c.args.line.now) (ap line_text (sym c.in-Delete.is)) c.put_alone.ensures

pub returns-in-SetOpts : goal.returns-in-SetOpts
unfolding line_words
returns-in-SetOpts g c = puts_as (line_text c.args.line.now) (ap line_text (sym c.in-SetOpts.is)) c.put_opts.ensures

pub returns-in-GetOpts : goal.returns-in-GetOpts
unfolding line_words
returns-in-GetOpts g c = puts_as (line_text c.args.line.now) (ap line_text (sym c.in-GetOpts.is)) c.put_alone-in-GetOpts.ensures

pub returns-in-Find : goal.returns-in-Find
unfolding line_words
returns-in-Find g c =
    puts_as (line_text c.args.line.now) (ap line_text (sym c.in-Find.is))
    (puts_as _ (ap (λ (x : List ℕ). line_text (Find c.in-Find.pipe x)) c.as_slice-in-Find.ensures) c.put_find.ensures)

pub returns-in-PipeName : goal.returns-in-PipeName
unfolding line_words
returns-in-PipeName g c = puts_as (line_text c.args.line.now) (ap line_text (sym c.in-PipeName.is)) c.put_alone-in-PipeName.ensures

pub returns-in-Subscribe : goal.returns-in-Subscribe
unfolding line_words
returns-in-Subscribe g c = puts_as (line_text c.args.line.now) (ap line_text (sym c.in-Subscribe.is)) c.put_subscribe.ensures

pub returns-in-Unsubscribe : goal.returns-in-Unsubscribe
unfolding line_words
returns-in-Unsubscribe g c = puts_as (line_text c.args.line.now) (ap line_text (sym c.in-Unsubscribe.is)) c.put_unsubscribe.ensures

pub returns-in-Send : goal.returns-in-Send
unfolding line_words
returns-in-Send g c = puts_as (line_text c.args.line.now) (ap line_text (sym c.in-Send.is)) c.put_send.ensures

pub returns-in-SendRaw : goal.returns-in-SendRaw
unfolding line_words
returns-in-SendRaw g c =
    puts_as (line_text c.args.line.now) (ap line_text (sym c.in-SendRaw.is))
    (puts_as _ (ap (λ (x : List ℕ). line_text (SendRaw x c.in-SendRaw.inc)) c.as_slice-in-SendRaw.ensures) c.put_send_raw.ensures)

pub returns-in-Receive : goal.returns-in-Receive
unfolding line_words
returns-in-Receive g c = puts_as (line_text c.args.line.now) (ap line_text (sym c.in-Receive.is)) c.put_alone-in-Receive.ensures

pub returns-in-Pend : goal.returns-in-Pend
unfolding line_words
returns-in-Pend g c = puts_as (line_text c.args.line.now) (ap line_text (sym c.in-Pend.is)) c.put_alone-in-Pend.ensures

pub returns-in-Allocate : goal.returns-in-Allocate
unfolding line_words
returns-in-Allocate g c = puts_as (line_text c.args.line.now) (ap line_text (sym c.in-Allocate.is)) c.put_allocate.ensures

pub returns-in-TransmitBuffer : goal.returns-in-TransmitBuffer
unfolding line_words
returns-in-TransmitBuffer g c = puts_as (line_text c.args.line.now) (ap line_text (sym c.in-TransmitBuffer.is)) c.put_transmit_buffer.ensures

pub returns-in-Release : goal.returns-in-Release
unfolding line_words
returns-in-Release g c = puts_as (line_text c.args.line.now) (ap line_text (sym c.in-Release.is)) c.put_alone-in-Release.ensures

pub returns-in-PoolCreate : goal.returns-in-PoolCreate
unfolding line_words
returns-in-PoolCreate g c = puts_as (line_text c.args.line.now) (ap line_text (sym c.in-PoolCreate.is)) c.put_pool_create.ensures

pub returns-in-PoolGet : goal.returns-in-PoolGet
unfolding line_words
returns-in-PoolGet g c = puts_as (line_text c.args.line.now) (ap line_text (sym c.in-PoolGet.is)) c.put_pool_get.ensures

pub returns-in-PoolPut : goal.returns-in-PoolPut
unfolding line_words
returns-in-PoolPut g c = puts_as (line_text c.args.line.now) (ap line_text (sym c.in-PoolPut.is)) c.put_pool_put.ensures

pub returns-in-PoolFigures : goal.returns-in-PoolFigures
unfolding line_words
returns-in-PoolFigures g c = puts_as (line_text c.args.line.now) (ap line_text (sym c.in-PoolFigures.is)) c.put_alone-in-PoolFigures.ensures

pub returns-in-Register : goal.returns-in-Register
unfolding line_words
returns-in-Register g c = puts_as (line_text c.args.line.now) (ap line_text (sym c.in-Register.is)) c.put_register_events.ensures

pub returns-in-SendEvent : goal.returns-in-SendEvent
unfolding line_words
returns-in-SendEvent g c =
    puts_as (line_text c.args.line.now) (ap line_text (sym c.in-SendEvent.is))
    (puts_as _ (ap (λ (x : List ℕ). line_text (SendEvent c.in-SendEvent.id c.in-SendEvent.kind x)) c.as_slice-in-SendEvent.ensures) c.put_send_event.ensures)

pub returns-in-ResetFilter : goal.returns-in-ResetFilter
unfolding line_words
returns-in-ResetFilter g c = puts_as (line_text c.args.line.now) (ap line_text (sym c.in-ResetFilter.is)) c.put_reset_filter.ensures

pub returns-in-LogMode : goal.returns-in-LogMode
unfolding line_words
returns-in-LogMode g c = puts_as (line_text c.args.line.now) (ap line_text (sym c.in-LogMode.is)) c.put_log_mode.ensures

pub returns-in-ClearLog : goal.returns-in-ClearLog
unfolding line_words
returns-in-ClearLog g c = puts_as (line_text c.args.line.now) (ap line_text (sym c.in-ClearLog.is)) c.put.ensures

pub returns-in-Housekeeping : goal.returns-in-Housekeeping
unfolding line_words
returns-in-Housekeeping g c = puts_as (line_text c.args.line.now) (ap line_text (sym c.in-Housekeeping.is)) c.put-in-Housekeeping.ensures

pub returns-in-Figures : goal.returns-in-Figures
unfolding line_words
returns-in-Figures g c = puts_as (line_text c.args.line.now) (ap line_text (sym c.in-Figures.is)) c.put-in-Figures.ensures

pub returns-in-TableRegister : goal.returns-in-TableRegister
unfolding line_words
returns-in-TableRegister g c =
    puts_as (line_text c.args.line.now) (ap line_text (sym c.in-TableRegister.is))
    (puts_as _
    (ap (λ (x : List ℕ). line_text (TableRegister c.in-TableRegister.handle x c.in-TableRegister.size c.in-TableRegister.option c.list.result.now)) c.as_slice-in-TableRegister.ensures
    ∙ ap (λ (y : List Rule). line_text (TableRegister c.in-TableRegister.handle c.in-TableRegister.name c.in-TableRegister.size c.in-TableRegister.option y)) c.list.ensures)
    c.put_table_register.ensures)

pub returns-in-TableShare : goal.returns-in-TableShare
unfolding line_words
returns-in-TableShare g c =
    puts_as (line_text c.args.line.now) (ap line_text (sym c.in-TableShare.is))
    (puts_as _ (ap (λ (x : List ℕ). line_text (TableShare c.in-TableShare.handle x)) c.as_slice-in-TableShare.ensures) c.put_table_share.ensures)

pub returns-in-TableUnregister : goal.returns-in-TableUnregister
unfolding line_words
returns-in-TableUnregister g c = puts_as (line_text c.args.line.now) (ap line_text (sym c.in-TableUnregister.is)) c.put_alone-in-TableUnregister.ensures

pub returns-in-Stage : goal.returns-in-Stage
unfolding line_words
returns-in-Stage g c = puts_as (line_text c.args.line.now) (ap line_text (sym c.in-Stage.is)) c.put_load.ensures

pub returns-in-Validate : goal.returns-in-Validate
unfolding line_words
returns-in-Validate g c = puts_as (line_text c.args.line.now) (ap line_text (sym c.in-Validate.is)) c.put_alone-in-Validate.ensures

pub returns-in-Update : goal.returns-in-Update
unfolding line_words
returns-in-Update g c = puts_as (line_text c.args.line.now) (ap line_text (sym c.in-Update.is)) c.put_alone-in-Update.ensures

pub returns-in-Abort : goal.returns-in-Abort
unfolding line_words
returns-in-Abort g c = puts_as (line_text c.args.line.now) (ap line_text (sym c.in-Abort.is)) c.put_alone-in-Abort.ensures

pub returns-in-Load : goal.returns-in-Load
unfolding line_words
returns-in-Load g c = puts_as (line_text c.args.line.now) (ap line_text (sym c.in-Load.is)) c.put_load-in-Load.ensures

pub returns-in-GetAddress : goal.returns-in-GetAddress
unfolding line_words
returns-in-GetAddress g c = puts_as (line_text c.args.line.now) (ap line_text (sym c.in-GetAddress.is)) c.put_alone-in-GetAddress.ensures

pub returns-in-ReleaseAddress : goal.returns-in-ReleaseAddress
unfolding line_words
returns-in-ReleaseAddress g c = puts_as (line_text c.args.line.now) (ap line_text (sym c.in-ReleaseAddress.is)) c.put_alone-in-ReleaseAddress.ensures

pub returns-in-Status : goal.returns-in-Status
unfolding line_words
returns-in-Status g c = puts_as (line_text c.args.line.now) (ap line_text (sym c.in-Status.is)) c.put_alone-in-Status.ensures

pub returns-in-Form : goal.returns-in-Form
unfolding line_words
returns-in-Form g c = puts_as (line_text c.args.line.now) (ap line_text (sym c.in-Form.is)) c.put_form.ensures

pub returns-in-Put : goal.returns-in-Put
unfolding line_words
returns-in-Put g c =
    puts_as (line_text c.args.line.now) (ap line_text (sym c.in-Put.is))
    (puts_as _ (ap (λ (x : List ℕ). line_text (Put c.in-Put.buf c.in-Put.offset x)) c.as_slice-in-Put.ensures) c.put_bytes.ensures)

pub returns-in-ShowPipe : goal.returns-in-ShowPipe
unfolding line_words
returns-in-ShowPipe g c = puts_as (line_text c.args.line.now) (ap line_text (sym c.in-ShowPipe.is)) c.put_alone-in-ShowPipe.ensures

pub returns-in-ShowTable : goal.returns-in-ShowTable
unfolding line_words
returns-in-ShowTable g c = puts_as (line_text c.args.line.now) (ap line_text (sym c.in-ShowTable.is)) c.put_alone-in-ShowTable.ensures
