use Rattle.std.proofs.Common.{◌≡◌, ◌∙◌, ap, ap₂, true}
use Rattle.std.proofs.lemmas.Result.{IfOk-weaker}
use Rattle.clap.specs.Simple.{app_of, app_of_fields, on_top, with_rule}
use Rattle.serve_words.specs.Options.{bare_app}
use Rattle.serve_words.proofs.options.command.Goals as goal

pub returns : goal.returns
returns c =
    let bare : app_of c.disable_help_flag.result ≡ bare_app = ap app_of_fields c.disable_help_flag.ensures
    ∙ ap (on_top (λ s. record s { disable_help_flag = true })) (ap app_of_fields c.no_binary_name.ensures
    ∙ ap (on_top (λ s. record s { no_binary_name = true })) c.new.ensures.app) in
    let app = c.in_ok-arg.ensures.shape c.option.ensures.local ∙ ap₂ with_rule bare c.option.ensures.rule in
    let method = c.in_ok-arg-2.ensures.shape c.option-2.ensures.local ∙ ap₂ with_rule app c.option-2.ensures.rule in
    let shell = c.in_ok-arg-3.ensures.shape c.option-3.ensures.local ∙ ap₂ with_rule method c.option-3.ensures.rule in
    let order = c.in_ok-arg-4.ensures.shape c.option-4.ensures.local ∙ ap₂ with_rule shell c.option-4.ensures.rule in
    let entries = c.in_ok-arg-5.ensures.shape c.option-5.ensures.local ∙ ap₂ with_rule order c.option-5.ensures.rule in
    let store = c.in_ok-arg-6.ensures.shape c.option-6.ensures.local ∙ ap₂ with_rule entries c.option-6.ensures.rule in
    let weight = c.in_ok-arg-7.ensures.shape c.option-7.ensures.local ∙ ap₂ with_rule store c.option-7.ensures.rule in
    IfOk-weaker c.arg-8.result _ _
    (λ r adds. adds.shape c.option-8.ensures.local ∙ ap₂ with_rule weight c.option-8.ensures.rule)
    c.arg-8.ensures
