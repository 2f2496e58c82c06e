pub mod CertificateText
pub mod CertificateReading
pub mod CertificateIndex
pub mod CodeCertificate
pub mod CodeIndex
pub mod Answer
pub mod IndexAnswer
pub mod TextParts
