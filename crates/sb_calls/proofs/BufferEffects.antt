-- What the calls of buffers leave.
use Rattle.std.proofs.Common.{◌≡◌, ℕ, ◌≤◌, ◌==◌, Bool, true, true≢false, eqb-true, eq-eqb, List, [], ◌∷◌, ◌++◌, length, Option, Some, None, is_some, Result, Ok, Err, IfOk, OnErr, IsTrue, refl, ap, sym, ◌∙◌, arith}
use Rattle.std.proofs.lemmas.List.{length_push}
use Rattle.std.specs.Option.{option_map, option_map_or}
use Rattle.fsw_base.specs.declared.statuses.SbStatus.{SbStatus}
use Rattle.lend_block.specs.Loan.{LentBytes}
use Rattle.lend_block.specs.declared.note.Note.{Note}
use Rattle.lend_block.specs.declared.note.Note.TheVariants.{Nothing, Desc}
use Rattle.buf_desc.specs.Block.{Unsent}
use Rattle.buf_desc.specs.Held.{Holding, buffer_at, bytes_at}
use Rattle.housekeeping.specs.declared.names.CounterName.TheVariants.{Send}
use Rattle.bus_words.specs.declared.calls.BusAnswer.{BusAnswer}
use Rattle.bus_words.specs.declared.calls.BusAnswer.TheVariants.{Done, Number, Sent, Sb}
use Rattle.bus_words.specs.declared.history.Call.TheVariants.{Allocate, TransmitBuffer, Release}
use Rattle.bus_words.specs.declared.history.Entry.{Entry}
use Rattle.bus_words.specs.Bus.{Buffer, has_unsent, unsent_at, unsent_size}
use Rattle.bus_words.specs.Held.{is_unsent}
use Rattle.bus_words.specs.Log.{with_entry}
use Rattle.bus_words.specs.Machine.{brings}
use Rattle.bus_words.proofs.Finds.{same-self}
use Rattle.bus_words.proofs.UnsentSteps.{gone-unsent}
use Rattle.bus_messages.specs.Bag.{Shape, shape_of}
use Rattle.bus_messages.specs.Store.{BufferDesc}
use Rattle.bus_messages.specs.Words.{desc_of, size_for}
use Rattle.sb_calls.specs.declared.results.Sent.{Sent as SentTo}
use Rattle.bus_core.specs.Answers.{numbered, done}
use Rattle.sb_calls.specs.Answers.{sent}
use Rattle.bus_core.specs.Bags.{HasBag, KeepsAllLoans, KeepsDescs}
use Rattle.bus_core.specs.Core.{Plain, Acts, with_tick}
use Rattle.sb_calls.specs.declared.journalled.BusCore.TheInside.{Inside}
use Rattle.sb_calls.specs.Inside.{Stands}
use Rattle.sb_calls.specs.Notes.{NotedLog, note_given, note_told}
use Rattle.sb_calls.proofs.Holds.{bytes-due}
use Rattle.sb_calls.proofs.CallEffects.{made_quiet, unsent_in_core}
use Rattle.sb_calls.proofs.EntryLemma.{Made, step_is}
use Rattle.sb_calls.proofs.UnsentBuffers.{HasLeft, allocated-there, transmitted-left, released-left}

-- A buffer that is given. --

-- the descriptor of a buffer's block in the bag is the one that is told of it
held-desc : (descs : List BufferDesc) (sizes : List ℕ) (number : ℕ) (block : Option Unsent) (buffer : Option Buffer) → is_some buffer ≡ true →
    option_map shape_of block ≡ option_map (λ (b : Buffer). record { desc = desc_of descs number; size = size_for sizes b.size; asked = b.size }) buffer →
    note_given block ≡ Desc (desc_of descs number)
held-desc descs sizes number block None some is = absurd (true≢false (sym some))
held-desc descs sizes number None (Some buffer) some is = absurd (cc is)
held-desc descs sizes number (Some block) (Some buffer) some is = ap (λ (o : Option Shape). option_map_or (λ (s : Shape). Desc s.desc) o Nothing) is

pub made_allocate : (a : Inside) (core : Plain) (next : NotedLog) (app size : ℕ) (result : Result ℕ SbStatus) (told : BusAnswer) (note : Note) (bag : Holding LentBytes) →
    Stands a → app ≤ length a.noted.log.budgets → HasBag core app bag → Acts a.core core app (Allocate size) (numbered result) → told ≡ numbered result →
    OnErr result (core ≡ with_tick a.core Send) → IfOk result (KeepsDescs a.core core) → KeepsAllLoans a.core core → note ≡ note_told result (buffer_at bag) →
    next ≡ record { log = with_entry a.noted.log (record { app = app; call = Allocate size; answer = told }); notes = a.noted.notes ++ note ∷ [] } →
    Made a core next app (Allocate size) (numbered result)
made_allocate a core next app size (Err status) told note bag stands known has acts as_told same descs loans noted pushed = record {
  acts = acts;
  makes = refl;
  whole = refl;
  name = 0;
  pushed = pushed
      ∙ ap (λ t. record { log = with_entry a.noted.log (record { app = app; call = Allocate size; answer = t }); notes = a.noted.notes ++ note ∷ [] }) as_told
      ∙ ap (λ n. record { log = with_entry a.noted.log (record { app = app; call = Allocate size; answer = Sb status }); notes = a.noted.notes ++ n ∷ [] }) noted;
  given = λ pipe gives some. absurd (true≢false (sym gives));
  kept = λ pipe none some had. loans pipe;
  gave = λ number gives. absurd (true≢false (sym gives));
  left = λ number none now was. ap (λ (c : Plain). desc_of c.descs number) same;
}
made_allocate a core next app size (Ok number) told note bag stands known has acts as_told same descs loans noted pushed =
    let are = unsent_in_core a stands in
    let there : has_unsent core.whole.bus.unsent app number ≡ true =
    allocated-there a.core.limits a.noted.log.entries a.core.whole.bus core.whole.bus app size number (omega (arith, known, are.lists, has.buffers.known))
    (step_is a core app (Allocate size) (Number number) stands acts) in
    let desc = desc_of core.descs number in
    let named : note ≡ Desc desc =
    noted ∙ held-desc core.descs core.limits.sizes number (buffer_at bag number) (unsent_at core.whole.bus.unsent app number) there (has.buffers.due number) in
    record {
      acts = acts;
      makes = refl;
      whole = refl;
      name = desc;
      pushed = pushed
          ∙ ap (λ t. record { log = with_entry a.noted.log (record { app = app; call = Allocate size; answer = t }); notes = a.noted.notes ++ note ∷ [] }) as_told
          ∙ ap (λ n. record { log = with_entry a.noted.log (record { app = app; call = Allocate size; answer = Number number }); notes = a.noted.notes ++ n ∷ [] }) named;
      given = λ pipe gives some. absurd (true≢false (sym gives));
      kept = λ pipe none some had. loans pipe;
      gave = λ other gives. ap (desc_of core.descs) (eqb-true other number gives);
      left = λ other none now was. descs other (λ is. true≢false (sym (same-self other) ∙ ap (λ n. other == n) (sym is) ∙ none));
    }

-- A buffer that leaves. --

-- no descriptor of a buffer that stays changes
stays-noted : (a : Inside) (core : Plain) (app buf : ℕ) → Stands a → KeepsDescs a.core core buf → HasLeft a.core.whole.bus core.whole.bus app buf → (number : ℕ) →
    is_unsent core.whole.bus.unsent number ≡ true → desc_of core.descs number ≡ desc_of a.core.descs number
stays-noted a core app buf stands descs left number now =
    descs number (λ is. true≢false (sym now ∙ ap (is_unsent core.whole.bus.unsent) (sym is) ∙ ap (λ u. is_unsent u buf) left.left
    ∙ gone-unsent a.core.whole.bus.unsent app buf ((unsent_in_core a stands).once buf) left.had))

pub made_release : (a : Inside) (core : Plain) (next : NotedLog) (app buf : ℕ) (result : Result (Unit {0}) SbStatus) (told : BusAnswer) →
    Stands a → Acts a.core core app (Release buf) (done result) → told ≡ done result →
    OnErr result (core ≡ with_tick a.core Send) → KeepsDescs a.core core buf → KeepsAllLoans a.core core →
    next ≡ record { log = with_entry a.noted.log (record { app = app; call = Release buf; answer = told }); notes = a.noted.notes ++ Nothing ∷ [] } →
    Made a core next app (Release buf) (done result)
made_release a core next app buf (Err status) told stands acts as_told same descs loans pushed =
    made_quiet a core next app (Release buf) (Sb status) told acts refl refl as_told pushed refl (λ pipe. refl) (λ number. refl) (λ pipe some had. loans pipe)
    (λ number now. ap (λ (c : Plain). desc_of c.descs number) same)
made_release a core next app buf (Ok nothing) told stands acts as_told same descs loans pushed =
    made_quiet a core next app (Release buf) Done told acts refl refl as_told pushed refl (λ pipe. refl) (λ number. refl) (λ pipe some had. loans pipe)
    (stays-noted a core app buf stands descs (released-left a.core.limits a.noted.log.entries a.core.whole.bus core.whole.bus app buf (step_is a core app (Release buf) Done stands acts)))

-- the bytes of the bag's buffer are those of the application's, all of them
pub brings-held : (a : Inside) (app buf : ℕ) (inc : Bool) (bag : Holding LentBytes) → HasBag a.core app bag → IsTrue (brings a.core.whole.bus.unsent app (TransmitBuffer buf (bytes_at bag buf) inc))
brings-held a app buf inc bag has =
    eq-eqb (length (bytes_at bag buf)) (unsent_size a.core.whole.bus.unsent app buf) (bytes-due a.core.whole.bus.unsent a.core.descs a.core.limits.sizes app buf bag has.buffers)

pub made_transmit_buffer : (a : Inside) (core : Plain) (next : NotedLog) (app buf : ℕ) (bytes : List ℕ) (inc : Bool) (result : Result SentTo SbStatus) (told : BusAnswer) →
    Stands a → IsTrue (brings a.core.whole.bus.unsent app (TransmitBuffer buf bytes inc)) → Acts a.core core app (TransmitBuffer buf bytes inc) (sent result) → told ≡ sent result →
    OnErr result (core ≡ with_tick a.core Send) → KeepsDescs a.core core buf → KeepsAllLoans a.core core →
    next ≡ record { log = with_entry a.noted.log (record { app = app; call = TransmitBuffer buf bytes inc; answer = told }); notes = a.noted.notes ++ Nothing ∷ [] } →
    Made a core next app (TransmitBuffer buf bytes inc) (sent result)
made_transmit_buffer a core next app buf bytes inc (Err status) told stands whole acts as_told same descs loans pushed =
    made_quiet a core next app (TransmitBuffer buf bytes inc) (Sb status) told acts refl whole as_told pushed refl (λ pipe. refl) (λ number. refl) (λ pipe some had. loans pipe)
    (λ number now. ap (λ (c : Plain). desc_of c.descs number) same)
made_transmit_buffer a core next app buf bytes inc (Ok it) told stands whole acts as_told same descs loans pushed =
    made_quiet a core next app (TransmitBuffer buf bytes inc) (Sent it.number it.reached) told acts refl whole as_told pushed refl (λ pipe. refl) (λ number. refl) (λ pipe some had. loans pipe)
    (stays-noted a core app buf stands descs
    (transmitted-left a.core.limits a.noted.log.entries a.core.whole.bus core.whole.bus app buf it.number it.reached bytes inc
    (step_is a core app (TransmitBuffer buf bytes inc) (Sent it.number it.reached) stands acts)))

-- if an entry was pushed there is one
pub some_pushed : (old mid : NotedLog) (e : Entry) (note : Note) → mid ≡ record { log = with_entry old.log e; notes = old.notes ++ note ∷ [] } → 1 ≤ length mid.log.entries
some_pushed old mid e note pushed = omega (arith, ap (λ (n : NotedLog). length n.log.entries) pushed, length_push old.log.entries e)

-- an entry that was pushed before its answer was known, and got it then
pub pushed_then_answered : (old mid next : NotedLog) (e : Entry) (told : BusAnswer) → mid ≡ record { log = with_entry old.log e; notes = old.notes ++ Nothing ∷ [] } →
    ((front : List Entry) (last : Entry) → mid.log.entries ≡ front ++ last ∷ [] → next.log.entries ≡ front ++ record last { answer = told } ∷ []) →
    next.log.budgets ≡ mid.log.budgets → next.notes ≡ mid.notes →
    next ≡ record { log = with_entry old.log (record e { answer = told }); notes = old.notes ++ Nothing ∷ [] }
pushed_then_answered old mid next e told pushed answered budgets notes =
    let entries : next.log.entries ≡ old.log.entries ++ record e { answer = told } ∷ [] = answered old.log.entries e (ap (λ (n : NotedLog). n.log.entries) pushed) in
    let same : next.log.budgets ≡ old.log.budgets = budgets ∙ ap (λ (n : NotedLog). n.log.budgets) pushed in
    let all : next.notes ≡ old.notes ++ Nothing ∷ [] = notes ∙ ap (λ (n : NotedLog). n.notes) pushed in
    λ i. record { log = record { budgets = same i; entries = entries i }; notes = all i }
