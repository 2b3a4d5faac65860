use Rattle.std.proofs.Common.{◌∙◌, ap, sym}
use Rattle.bus_core.specs.Core.{Plain}
use Rattle.bus_core.specs.News.{has_news}
use Rattle.bus_core.proofs.News.{news-told, none_heard, some_heard}
use Rattle.bus_core.proofs.plain.PlainBus.has_news.Goals as goal

pub returns-clause-told : goal.returns-clause-told
returns-clause-told c = c.is_anyone_served.ensures ∙ (news-told c.self.inside c.deref.result.now c.deref.ensures.value ∙ ap (λ (o : Plain). has_news o.whole.bus) c.self.view_is)

pub returns-clause-none : goal.returns-clause-none
returns-clause-none c = λ vain. none_heard c.args.self.now.whole.bus (sym (ap (λ (o : Plain). has_news o.whole.bus) c.self.view_is) ∙ (sym (news-told c.self.inside c.deref.result.now c.deref.ensures.value) ∙ (sym c.is_anyone_served.ensures ∙ vain)))

pub returns-clause-some : goal.returns-clause-some
returns-clause-some c = λ news. some_heard c.args.self.now.whole.bus (sym (ap (λ (o : Plain). has_news o.whole.bus) c.self.view_is) ∙ (sym (news-told c.self.inside c.deref.result.now c.deref.ensures.value) ∙ (sym c.is_anyone_served.ensures ∙ news)))
