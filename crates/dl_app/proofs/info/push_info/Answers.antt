use Rattle.std.proofs.Common.{rules, ◌≡◌, ◌++◌, codes, refl}
use Rattle.dl_app.specs.InfoText.{names_text, form_text, owners_text, users_text, more_text}
use Rattle.dl_app.proofs.Told.{grows, grows_on}
use Rattle.dl_app.proofs.info.push_info.Goals as goal

pub returns-clause-text : goal.returns-clause-text
returns-clause-text g c =
    let info = c.args.info.now in
    let old = c.args.text.now.items in
    let named = c.push_names.new.text.items in
    let formed = c.push_form.new.text.items in
    let listed = c.push_owners.new.text.items in
    let counted = c.push_users.new.text.items in
    let names = names_text info.log info.base in
    let form = form_text info.kind info.size info.mode in
    let sign = codes " owners=" in
    let owners = owners_text info.owners in
    let users = users_text info.users info.blocked in
    let listed_is : listed ≡ formed ++ sign ++ owners = search (rules, c.in_ok-push_owners.ensures.text, c.as_slice.ensures) in
    let second = grows old named formed names form c.in_ok-push_names.ensures.text c.in_ok-push_form.ensures.text in
    let third = grows old formed (formed ++ sign) (names ++ form) sign second refl in
    let fourth = grows old (formed ++ sign) listed (names ++ form ++ sign) owners third listed_is in
    let fifth = grows old listed counted (names ++ form ++ sign ++ owners) users fourth c.in_ok-push_users.ensures.text in
    grows_on c.push_more.result old counted c.push_more.new.text.items (names ++ form ++ sign ++ owners ++ users) (more_text info.writing) fifth c.push_more.ensures.text
