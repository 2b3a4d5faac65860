use Rattle.std.proofs.Common.{◌∙◌, ◌&&◌, Bool, ap, ap₂, sym}
use Rattle.core_port.specs.Inside.{BoxedView}
use Rattle.core_port.proofs.boxed.BoxedCore.take_sleepers.Goals as goal

pub returns-clause-woken : goal.returns-clause-woken
returns-clause-woken g c =
    let asleep = ap (λ (k : BoxedView _). k.asleep) (sym c.self.view_is) ∙ c.if-not-self.false in
    let news = ap (λ (k : BoxedView _). g.K.Kind.words.news k.core) (sym c.self.view_is) ∙ ap (λ k. g.K.Kind.words.news (g.C.ServedCore.seen k)) (sym c.deref.ensures) ∙ sym c.has_news.ensures ∙ c.if-not-has_news.false in
    sym (ap₂ (λ (a b : Bool). a && b) asleep news)
