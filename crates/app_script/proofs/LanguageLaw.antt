-- A text is a script if and only if its lines are those of one, in order.
use Rattle.std.proofs.Common.{◌≡◌, ℕ, ◌≤◌, true, ◌&&◌, nat_le, List, length, Option, Result, Ok, Err, refl, ap, sym, ◌∙◌, subst}
use Rattle.std.specs.List.{list_all}
use Rattle.std.proofs.lemmas.Bool.{leb-true}
use Rattle.fsw_base.specs.Starts.{is_start, are_distinct_ids, are_count_starts}
use Rattle.fsw_base.specs.Limits.{Limits, usual_limits}
use Rattle.fsw_base.specs.declared.script_faults.ScriptFault.{ScriptFault}
use Rattle.script_words.specs.Text.{lines_of}
use Rattle.script_lines.proofs.Booleans.{and_first}
use Rattle.app_script.specs.Items.{Setting}
use Rattle.app_script.specs.Script.{ScriptText}
use Rattle.app_script.specs.Language.{IsText, told_among, told_by, version_in, configured}
use Rattle.app_script.specs.Grammar.{Progress, opening, apps_of, progress_of, grammar, ◌>=>◌}
use Rattle.app_script.proofs.ReadWalk.{whole_read}
use Rattle.app_script.proofs.ReadScripts.{read_script_is}
use Rattle.app_script.proofs.ReadingStates.{progress_back, grammar_back}
use Rattle.app_script.proofs.ItemSteps.{lines_tell, lines_read, settings_keep_version}
use Rattle.app_script.proofs.ItemsTell.{in_order}
use Rattle.app_script.proofs.ItemsPass.{script_passes}

few_starts : (starts : List (ℕ × ℕ)) → are_count_starts starts ≡ true → length starts ≤ 16
few_starts starts h =
    leb-true (length starts) 16 (and_first (nat_le (length starts) 16) (list_all is_start starts) (and_first (nat_le (length starts) 16 && list_all is_start starts) (are_distinct_ids starts) h))

-- the version that settings leave is the one that was told
told_version : (s : Progress) (version : Option ℕ) (settings : List Setting) → s.limits ≡ configured (version_in version) settings → s.limits.version ≡ version_in version
told_version s version settings are = ap (λ (l : Limits). l.version) are ∙ settings_keep_version settings (record usual_limits { version = version_in version })

text_of : (text : List ℕ) (s : Progress) → progress_of text ≡ Ok s → IsText text (record { limits = s.limits; apps = apps_of s })
text_of text s read =
    let whole = whole_read text s read in
    let tells = lines_tell (lines_of text) 1 opening s (λ h. absurd cc) whole.1 in
    let order = in_order tells.items s tells.taken in
    let is = read_script_is text s read in
    record {
      size = whole.0;
      plain = tells.plain;
      version = order.version;
      settings = order.settings;
      order = ap (λ n. told_by n (told_among (lines_of text))) (sym (told_version s order.version order.settings order.limits)) ∙ tells.told ∙ ap Ok order.order;
      limits = order.limits;
      once = order.once;
      starts = few_starts s.limits.starts is.starts;
      some = is.some;
      few = is.few;
      names = is.names;
      calls = is.calls;
      charges = is.bytes;
    }

-- what is read as a script is a text of the language
pub scripts_are_texts : (text : List ℕ) (script : ScriptText) → grammar text ≡ Ok script → IsText text script
unfolding grammar
scripts_are_texts text script e = decide (progress_of text) refl e
  where
    decide : (r : Result Progress ScriptFault) → progress_of text ≡ r → (r >=> λ s. Ok (record { limits = s.limits; apps = apps_of s })) ≡ Ok script → IsText text script
    decide (Ok s) so h =
        let same : record { limits = s.limits; apps = apps_of s } ≡ script = cc in
        subst (IsText text) same (text_of text s so)
    decide (Err fault) so h = absurd cc

-- a text of the language is read as its script
pub texts_are_scripts : (text : List ℕ) (script : ScriptText) → IsText text script → grammar text ≡ Ok script
texts_are_scripts text script is =
    let starts : length (configured (version_in is.version) is.settings).starts ≤ 16 = subst (λ (l : Limits). length l.starts ≤ 16) is.limits is.starts in
    let passes = script_passes is.version is.settings script.apps is.once starts is.names is.few is.calls is.charges in
    let end = passes.2 in
    let told = ap (λ n. told_by n (told_among (lines_of text))) (told_version passes.0 is.version is.settings end.has) ∙ is.order in
    grammar_back text passes.0 script
    (progress_back text (lines_of text) passes.0 is.size refl (lines_read (lines_of text) 1 opening passes.0 _ (λ h. absurd cc) is.plain told passes.1) (end.begins is.some))
    (end.has ∙ sym is.limits) end.read
