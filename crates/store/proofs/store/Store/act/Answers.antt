use Rattle.std.proofs.Common.{Ok, Err, refl}
use Rattle.std.proofs.lemmas.Result.{err_from_is_err_and}
use Rattle.tree.specs.Maps.{first_above}
use Rattle.search.specs.Finding.{pair_with}
use Rattle.store.specs.Model.{begins, aborts}
use Rattle.store.specs.Reading.{is_key, is_short}
use Rattle.store.specs.declared.client.Call.TheVariants.{Begin, Get, After, Abort}
use Rattle.store.proofs.Clients.{mapped, steps_act, read_acts, return_acts}
use Rattle.store.proofs.store.Store.act.Goals as goal

pub returns-in_err-begin-in-Begin : goal.returns-in_err-begin-in-Begin
returns-in_err-begin-in-Begin g c =
    let q = err_from_is_err_and c.from_residual-in_err-begin-in-Begin.result c.from_residual-in_err-begin-in-Begin.ensures.1 in
    rw (q.1, q.2)
    (steps_act g.D.Reader.past g.D.Reader.medium c.args.self.now.device c.begin.new.self.device _ Begin begins _ _ _ _ (Err _) _ (λ v w t s. s) c.in-Begin.is refl c.in_err-begin-in-Begin.ensures.device c.in_err-begin-in-Begin.ensures.model)

pub returns-in_ok-begin-in-Begin : goal.returns-in_ok-begin-in-Begin
returns-in_ok-begin-in-Begin g c =
    steps_act g.D.Reader.past g.D.Reader.medium c.args.self.now.device c.begin.new.self.device _ Begin begins _ _ _ _ (Ok tt) _ (λ v w t s. s) c.in-Begin.is refl c.in_ok-begin-in-Begin.ensures.device c.in_ok-begin-in-Begin.ensures.model

pub returns-in-Get : goal.returns-in-Get
returns-in-Get g c =
    read_acts _ _ _ _ _ _ _ _ _ _ Get is_key pair_with (λ v t f. f) _ _ _ _ c.in-Get.is (mapped _ _ _ c.map-in-Get.ensures.cases) c.deref.ensures.value c.get.ensures.model

pub returns-in-After : goal.returns-in-After
returns-in-After g c =
    read_acts _ _ _ _ _ _ _ _ _ _ After is_short first_above (λ v t f. f) _ _ _ _ c.in-After.is (mapped _ _ _ c.map-in-After.ensures.cases) c.deref-in-After.ensures.value c.after.ensures.model

pub returns-in_err-abort-in-Abort : goal.returns-in_err-abort-in-Abort
returns-in_err-abort-in-Abort g c =
    let q = err_from_is_err_and c.from_residual-in_err-abort-in-Abort.result c.from_residual-in_err-abort-in-Abort.ensures.1 in
    rw (q.1, q.2)
    (steps_act g.D.Reader.past g.D.Reader.medium c.args.self.now.device c.abort.new.self.device _ Abort aborts _ _ _ _ (Err _) _ (λ v w t s. s) c.in-Abort.is refl c.in_err-abort-in-Abort.ensures.device c.in_err-abort-in-Abort.ensures.model)

pub returns-in-PowerReturn : goal.returns-in-PowerReturn
returns-in-PowerReturn g c = return_acts _ _ _ _ _ _ _ _ _ _ c.in-PowerReturn.is refl c.power_return.ensures.shut c.power_return.ensures.forgotten c.power_return.ensures.device
