pub mod Texts
pub mod VerdictLines
pub mod CertificateTexts
pub mod Reports
pub mod Cuts
pub mod Checks
