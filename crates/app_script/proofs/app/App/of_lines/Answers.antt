use Rattle.std.proofs.Common.{length, ap, ◌∙◌, arith}
use Rattle.script_settings.specs.Accounts.{account_of}
use Rattle.app_script.proofs.app.App.of_lines.Goals as goal

pub invariant_of-result : goal.invariant_of-result
invariant_of-result c =
    let same = c.as_slice.ensures.value in
    record {
      account = c.account_of-account.ensures.account ∙ ap account_of same;
      calls = c.account_of-account.ensures.each ∙ ap length same;
      waits = omega (arith, c.account_of-account.ensures.waits, ap length same);
      buffers = omega (arith, c.account_of-account.ensures.buffers, ap length same);
      few = c.requires.calls;
    }
