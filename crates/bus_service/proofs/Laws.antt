-- The laws of the bus's words.
use Rattle.std.proofs.Common.{[], refl}
use Rattle.bus_words.specs.Bus.{opening}
use Rattle.sb_calls.specs.Core.{apps_of}
use Rattle.sb_calls.specs.Notes.{note_due}
use Rattle.core_port.specs.Words.{Laws}
use Rattle.bus_service.specs.Words.{bus}
use Rattle.bus_words.proofs.OwnEntries.{callers_from_one}
use Rattle.sb_calls.proofs.Notes.{even-due}
use Rattle.bus_service.proofs.OthersCalls.{may_meanwhile, others_more}

pub bus_laws : Laws bus
bus_laws = record {
  core_is = λ s. refl;
  its_fixed = λ f es ns. refl;
  its_entries = λ f es ns. refl;
  its_notes = λ f es ns. refl;
  entry_is = λ e. refl;
  its_caller = λ app call answer. refl;
  even = λ s sound. even-due s.log.entries s.notes sound.noted;
  called = λ s sound. callers_from_one s.limits [] (opening s.limits (apps_of s)) s.log.entries
      sound.legal;
  grown = λ f es more ns fresh app even sound others.
      others_more (bus.core f es ns) more fresh app even sound.legal sound.noted others;
  still_may = λ s t app call first others may. may_meanwhile s t app first others call may;
  known = λ s app call may. may.known;
  adds = λ s t app call answer does. (note_due answer call does.name, does.entry);
}
