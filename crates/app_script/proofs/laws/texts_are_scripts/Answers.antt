use Rattle.app_script.proofs.LanguageLaw.{scripts_are_texts, texts_are_scripts}
use Rattle.app_script.proofs.laws.texts_are_scripts.Goals as goal

pub returns : goal.returns
returns c = record { read = scripts_are_texts; accepted = texts_are_scripts }
