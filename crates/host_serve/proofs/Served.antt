-- What the top call did, put together of what happened on each word.
use Rattle.std.proofs.Common.{◌≡◌, ℕ, List, Option, Some, None, subst}
use Rattle.script_text.specs.Generated.{generated}
use Rattle.script_text.specs.ScriptSpelling.{spelled_script}
use Rattle.script_runs.specs.Histories.{Histories}
use Rattle.host_serve.specs.Serve.{Fed, Made, Outside, Served, Serves, Shows, Packs, Judges, OtherWords, Soaks, HasCauses, MakesNothing, OnThreads, Rotating}
use Rattle.host_report.specs.declared.reporting.Part.TheVariants.{Ending}
use Rattle.host_serve.specs.declared.words.Task.{Task}
use Rattle.host_serve.specs.declared.words.Task.TheVariants as task
use Rattle.host_serve.specs.declared.status.HostStatus.{HostStatus}
use Rattle.host_serve.specs.declared.status.HostStatus.TheVariants.{Done}
use Rattle.host_serve.proofs.Ends.{causes-judges, causes-packs, causes-runs, causes-script, causes-shows, causes-text, completes-judges, completes-packs, completes-runs, completes-shows, ends-other, headline-runs, script-done, text-done}
use Rattle.host_serve.proofs.PlanEnds.{causes-bridges, completes-bridges, headline-bridges}

-- each end has its cause
pub causes-task : (wanted : Option Task) (result : HostStatus) (fed fed' : Fed) (old new : Made) → Serves wanted result fed fed' old new →
    (asked : Task) → wanted ≡ Some asked → HasCauses result fed fed' old new
causes-task wanted result fed fed' old new serves task.Run is = causes-runs result OnThreads fed fed' old new (serves.on_threads is)
causes-task wanted result fed fed' old new serves task.Lockstep is = causes-runs result Rotating fed fed' old new (serves.lockstep is)
causes-task wanted result fed fed' old new serves (task.Generate number) is = causes-text Done result (spelled_script (generated number)) (MakesNothing old new) fed fed' old new tt (serves.generates number is).ends
causes-task wanted result fed fed' old new serves (task.Soak number) is = causes-script result Rotating Ending (generated number) fed fed' old new (serves.soaks number is).ends
causes-task wanted result fed fed' old new serves task.Bridge is = causes-bridges result fed fed' old new (serves.bridges is)
causes-task wanted result fed fed' old new serves task.Check is = causes-judges result fed fed' old new (serves.judges is)
causes-task wanted result fed fed' old new serves task.ShowImage is = causes-shows result fed fed' old new (serves.shows is)
causes-task wanted result fed fed' old new serves (task.Pack name offset sub) is = causes-packs result name offset sub fed fed' old new (serves.packs name offset sub is)

-- what happens on words that the program doesn't know is what happens
pub serves-other : (wanted : Option Task) (result : HostStatus) (fed fed' : Fed) (old new : Made) → wanted ≡ None → OtherWords result fed fed' old new → Serves wanted result fed fed' old new
serves-other wanted result fed fed' old new none other = record {
  on_threads = λ words. absurd (cc (none, words));
  lockstep = λ words. absurd (cc (none, words));
  generates = λ number words. absurd (cc (none, words));
  soaks = λ number words. absurd (cc (none, words));
  bridges = λ words. absurd (cc (none, words));
  judges = λ words. absurd (cc (none, words));
  shows = λ words. absurd (cc (none, words));
  packs = λ name offset sub words. absurd (cc (none, words));
  other_words = λ words. other;
}

-- what happens on `soak` and a number is what happens
pub serves-soaks : (wanted : Option Task) (number : ℕ) (result : HostStatus) (fed fed' : Fed) (old new : Made) → wanted ≡ Some (task.Soak number) →
    Soaks result number fed fed' old new → Serves wanted result fed fed' old new
serves-soaks wanted number result fed fed' old new is done = record {
  on_threads = λ words. absurd (cc (is, words));
  lockstep = λ words. absurd (cc (is, words));
  generates = λ other words. absurd (cc (is, words));
  soaks = λ other words. subst (λ n. Soaks result n fed fed' old new) (cc (is, words)) done;
  bridges = λ words. absurd (cc (is, words));
  judges = λ words. absurd (cc (is, words));
  shows = λ words. absurd (cc (is, words));
  packs = λ name offset sub words. absurd (cc (is, words));
  other_words = λ words. absurd (cc (is, words));
}

-- what happens on `check` is what happens
pub serves-judges : (wanted : Option Task) (result : HostStatus) (fed fed' : Fed) (old new : Made) → wanted ≡ Some task.Check →
    Judges result fed fed' old new → Serves wanted result fed fed' old new
serves-judges wanted result fed fed' old new is done = record {
  on_threads = λ words. absurd (cc (is, words));
  lockstep = λ words. absurd (cc (is, words));
  generates = λ number words. absurd (cc (is, words));
  soaks = λ number words. absurd (cc (is, words));
  bridges = λ words. absurd (cc (is, words));
  judges = λ words. done;
  shows = λ words. absurd (cc (is, words));
  packs = λ name offset sub words. absurd (cc (is, words));
  other_words = λ words. absurd (cc (is, words));
}

-- what happens on `image` is what happens
pub serves-shows : (wanted : Option Task) (result : HostStatus) (fed fed' : Fed) (old new : Made) → wanted ≡ Some task.ShowImage →
    Shows result fed fed' old new → Serves wanted result fed fed' old new
serves-shows wanted result fed fed' old new is done = record {
  on_threads = λ words. absurd (cc (is, words));
  lockstep = λ words. absurd (cc (is, words));
  generates = λ number words. absurd (cc (is, words));
  soaks = λ number words. absurd (cc (is, words));
  bridges = λ words. absurd (cc (is, words));
  judges = λ words. absurd (cc (is, words));
  shows = λ words. done;
  packs = λ name offset sub words. absurd (cc (is, words));
  other_words = λ words. absurd (cc (is, words));
}

-- what happens on `pack` is what happens
pub serves-packs : (wanted : Option Task) (name : List ℕ) (offset sub : ℕ) (result : HostStatus) (fed fed' : Fed) (old new : Made) → wanted ≡ Some (task.Pack name offset sub) →
    Packs result name offset sub fed fed' old new → Serves wanted result fed fed' old new
serves-packs wanted name offset sub result fed fed' old new is done = record {
  on_threads = λ words. absurd (cc (is, words));
  lockstep = λ words. absurd (cc (is, words));
  generates = λ number words. absurd (cc (is, words));
  soaks = λ number words. absurd (cc (is, words));
  bridges = λ words. absurd (cc (is, words));
  judges = λ words. absurd (cc (is, words));
  shows = λ words. absurd (cc (is, words));
  packs = λ other at what words.
      let one : name ≡ other = cc (is, words) in
      let two : offset ≡ at = cc (is, words) in
      let three : sub ≡ what = cc (is, words) in
      subst (λ n. Packs result n at what fed fed' old new) one (subst (λ n. Packs result name n what fed fed' old new) two (subst (λ n. Packs result name offset n fed fed' old new) three done));
  other_words = λ words. absurd (cc (is, words));
}

-- the same in other words, if what guards told is what the traits tell
pub serves-as : {wanted : Option Task} {result : HostStatus} {fed fed' fed₂ fed₂' : Fed} {old new old₂ new₂ : Made} → fed₂ ≡ fed → fed₂' ≡ fed' → old₂ ≡ old → new₂ ≡ new →
    Serves wanted result fed₂ fed₂' old₂ new₂ → Serves wanted result fed fed' old new
serves-as {wanted} {result} {fed} {fed'} {fed₂} {fed₂'} {old} {new} {old₂} {new₂} one two three four serves =
    subst (λ n. Serves wanted result fed fed' old n) four (subst (λ o. Serves wanted result fed fed' o new₂) three
    (subst (λ f. Serves wanted result fed f old₂ new₂) two (subst (λ f. Serves wanted result f fed₂' old₂ new₂) one serves)))

pub fed-as : {left left' : Option (List ℕ)} {faults faults' : ℕ} → left ≡ left' → faults ≡ faults' →
    (let f : Fed = record { left = left; faults = faults } in f) ≡ record { left = left'; faults = faults' }
fed-as one two = cc

pub made-as : {written written' : Option (List ℕ)} {faults faults' : ℕ} {shown shown' : Option (List Histories)} → written ≡ written' → faults ≡ faults' → shown ≡ shown' →
    (let m : Made = record { written = written; faults = faults; shown = shown } in m) ≡ record { written = written'; faults = faults'; shown = shown' }
made-as one two three = cc

-- all that the top call did, by what happened
pub served : (wanted : Option Task) (result : HostStatus) (before after : Outside) → Serves wanted result before.fed after.fed before.made after.made →
    Served wanted result before after
served wanted result before after serves = record {
  headline_on_run = λ words. headline-runs result OnThreads before.fed after.fed before.made after.made (serves.on_threads words);
  headline = λ words. headline-runs result Rotating before.fed after.fed before.made after.made (serves.lockstep words);
  headline_on_bridge = λ words. headline-bridges result before.fed after.fed before.made after.made (serves.bridges words);
  on_threads = serves.on_threads;
  lockstep = serves.lockstep;
  generates = serves.generates;
  soaks = serves.soaks;
  bridges = serves.bridges;
  judges = serves.judges;
  shows = serves.shows;
  packs = serves.packs;
  other_words = serves.other_words;
  causes = causes-task wanted result before.fed after.fed before.made after.made serves;
  usage_or_fault = λ words. ends-other result before.fed after.fed before.made after.made (serves.other_words words);
  complete_on_run = λ words. completes-runs result OnThreads before.fed after.fed before.made after.made (serves.on_threads words);
  complete = λ words. completes-runs result Rotating before.fed after.fed before.made after.made (serves.lockstep words);
  complete_generates = λ number words. text-done result (spelled_script (generated number)) (MakesNothing before.made after.made) before.made after.made (serves.generates number words).ends;
  complete_soaks = λ number words. script-done result Rotating Ending (generated number) before.made after.made (serves.soaks number words).ends;
  complete_bridges = λ words. completes-bridges result before.fed after.fed before.made after.made (serves.bridges words);
  complete_judges = λ words. completes-judges result before.fed after.fed before.made after.made (serves.judges words);
  complete_shows = λ words. completes-shows result before.fed after.fed before.made after.made (serves.shows words);
  complete_packs = λ name offset sub words. completes-packs result name offset sub before.fed after.fed before.made after.made (serves.packs name offset sub words);
}
